use Rattle.std.proofs.Common.{take}
use Rattle.sat_formula.specs.Formula.{Grows}
use Rattle.expr_rewriter.specs.inner.Forming.{JoinsForms}
use Rattle.expr_rewriter.proofs.forming.all_faults.Given as goal

abbrev pub invariant-loop-i : goal.invariant-loop-i
invariant-loop-i l = record {
  grows : Grows l.fn.f l.f;
  joins : JoinsForms l.f l.sets (take l.i l.parts) l.all;
}
