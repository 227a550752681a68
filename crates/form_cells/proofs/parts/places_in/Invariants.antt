use Rattle.sat_formula.specs.Formula.{Grows}
use Rattle.form_cells.specs.inner.Listed.{TellsPlaces}
use Rattle.form_cells.proofs.parts.places_in.Given as goal

abbrev pub invariant-loop-i : goal.invariant-loop-i
invariant-loop-i l = record {
  grows : Grows l.fn.formula l.formula;
  places : TellsPlaces l.arena l.formula l.s l.i l.places.items;
}
