use Rattle.std.proofs.Common.{◌-◌, drop, length}
use Rattle.sat_formula.specs.Formula.{Grows}
use Rattle.outcome_cells.specs.inner.Turns.{ShowsTurns}
use Rattle.outcome_cells.proofs.branches.turn_faults.Given as goal

abbrev pub invariant-loop-i : goal.invariant-loop-i
invariant-loop-i l = record {
  grows : Grows l.fn.f l.f;
  shows : ShowsTurns l.f l.wanted (drop (length l.xs - l.i) l.xs) (drop (length l.xs - l.i) l.bits) l.rest;
}
