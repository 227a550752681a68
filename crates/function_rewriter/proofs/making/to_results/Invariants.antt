use Rattle.std.proofs.Common.{◌≡◌, take}
use Rattle.function_rewriter.specs.Arrows.{with_results}
use Rattle.function_rewriter.proofs.making.to_results.Given as goal

abbrev pub invariant-loop-i : goal.invariant-loop-i
invariant-loop-i l = l.out.items ≡ with_results (take l.i l.edges) (take l.i l.results)
