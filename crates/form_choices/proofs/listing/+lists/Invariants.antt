use Rattle.std.proofs.Common.{take}
use Rattle.cell_arena.specs.Growth.{Grows}
use Rattle.form_choices.specs.inner.Parts.{ListsEach}
use Rattle.form_choices.proofs.listing.+lists.Given as goal

abbrev pub invariant-list_each-loop-i : goal.invariant-list_each-loop-i
invariant-list_each-loop-i l = record {
  grows : Grows l.fn.b l.b;
  lists : ListsEach l.fn.b l.b (take l.i l.forms) l.sets.items;
}
