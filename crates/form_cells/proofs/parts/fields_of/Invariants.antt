use Rattle.form_cells.specs.inner.Listed.{AreFirstFields}
use Rattle.form_cells.proofs.parts.fields_of.Given as goal

abbrev pub invariant-loop-i : goal.invariant-loop-i
invariant-loop-i l = record {
  fields : AreFirstFields l.b l.r l.names l.i l.cells.items;
}
