use Rattle.std.proofs.Common.{take}
use Rattle.function_rewriter.specs.inner.Arrows.{JoinsArrows}
use Rattle.function_rewriter.proofs.joining.join_arrows.Given as goal

abbrev pub invariant-loop-f : goal.invariant-loop-f
invariant-loop-f l = JoinsArrows l.formula l.es (take l.f-index l.fs) l.fs l.out.items
