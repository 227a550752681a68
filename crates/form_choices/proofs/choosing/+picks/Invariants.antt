use Rattle.std.proofs.Common.{take}
use Rattle.cell_arena.specs.Growth.{Grows}
use Rattle.form_choices.specs.inner.Parts.{PicksEach, repeated}
use Rattle.form_choices.proofs.choosing.+picks.Given as goal

abbrev pub invariant-pick_each-loop-i : goal.invariant-pick_each-loop-i
invariant-pick_each-loop-i l = record {
  grows : Grows l.fn.b l.b;
  picks : PicksEach l.fn.b l.b (take l.i l.forms) l.cells.items l.lits.items;
}

abbrev pub invariant-pick_many-loop-i : goal.invariant-pick_many-loop-i
invariant-pick_many-loop-i l = record {
  grows : Grows l.fn.b l.b;
  picks : PicksEach l.fn.b l.b (repeated l._i l.form) l.cells.items l.lits.items;
}
