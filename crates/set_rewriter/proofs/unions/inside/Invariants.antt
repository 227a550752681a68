use Rattle.std.proofs.Common.{take}
use Rattle.sat_formula.specs.Formula.{Grows}
use Rattle.set_rewriter.specs.inner.Steps.{Inside}
use Rattle.set_rewriter.proofs.unions.inside.Given as goal

abbrev pub invariant-loop-l : goal.invariant-loop-l
invariant-loop-l l = record {
  grows : Grows l.fn.formula l.formula;
  inside : Inside l.arena l.formula l.sets (take l.l-index l.sets) l.out.items;
}
