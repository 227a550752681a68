use Rattle.std.proofs.Common.{◌-◌, drop, length}
use Rattle.sat_formula.specs.Formula.{Grows}
use Rattle.branch_cells.specs.Ends.{AreJudged}
use Rattle.branch_cells.proofs.ends.judged.Given as goal

abbrev pub invariant-loop-i : goal.invariant-loop-i
invariant-loop-i l = record {
  grows : Grows l.fn.f l.f;
  judged : AreJudged l.f (drop (length l.xs - l.i) l.xs) l.rest;
}
