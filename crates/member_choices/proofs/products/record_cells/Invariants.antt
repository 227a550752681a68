use Rattle.tla_meaning.specs.Shapes.{record_of}
use Rattle.cell_arena.specs.Growth.{Grows}
use Rattle.member_choices.specs.Binders.{fields_sort}
use Rattle.member_choices.specs.inner.Tests.{AreWholes}
use Rattle.member_choices.proofs.products.record_cells.Given as goal

abbrev pub invariant-loop-i : goal.invariant-loop-i
invariant-loop-i l = record {
  grows : Grows l.fn.b l.b;
  wholes : AreWholes l.fn.b l.b (record_of l.names) (fields_sort l.names) l.cs l.i l.out.items;
}
