use Rattle.std.proofs.Common.{map, take}
use Rattle.std.specs.List.{list_all}
use Rattle.tla_meaning.specs.Forms.{all_belong, belongs}
use Rattle.cell_arena.specs.Decode.{decode, present}
use Rattle.cell_arena.specs.Growth.{Grows}
use Rattle.form_cells.specs.FormValues.{form_value}
use Rattle.form_cells.specs.inner.Listed.{AllTell}
use Rattle.form_cells.proofs.membership.+belongs.Given as goal

abbrev pub invariant-all_belong-loop-i : goal.invariant-all_belong-loop-i
invariant-all_belong-loop-i l = record {
  grows : Grows l.fn.b l.b;
  tests : AllTell l.b.formula (λ a. list_all (belongs (form_value l.fn.b.arena a l.form)) (present a (decode l.fn.b.arena a) (take l.i l.edges))) l.tests.items;
}

abbrev pub invariant-each_belongs-loop-i : goal.invariant-each_belongs-loop-i
invariant-each_belongs-loop-i l = record {
  grows : Grows l.fn.b l.b;
  tests : AllTell l.b.formula (λ a. all_belong (map (form_value l.fn.b.arena a) (take l.i l.forms)) (map (decode l.fn.b.arena a) (take l.i l.cells))) l.tests.items;
}
