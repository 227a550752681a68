use Rattle.std.proofs.Common.{[], map, take}
use Rattle.cell_arena.specs.Growth.{Grows}
use Rattle.typed_cells.specs.Known.{IsTextAmong}
use Rattle.typed_cells.specs.inner.Defaulted.{AreDefaults}
use Rattle.typed_cells.proofs.defaults.+defaults.Given as goal

abbrev pub invariant-item_cells-loop-i : goal.invariant-item_cells-loop-i
invariant-item_cells-loop-i l = record {
  grows : Grows l.fn.b l.b;
  text : IsTextAmong l.b.arena.texts [];
  cells : AreDefaults l.b (take l.i l.types) l.cells.items;
}

abbrev pub invariant-field_cells-loop-i : goal.invariant-field_cells-loop-i
invariant-field_cells-loop-i l = record {
  grows : Grows l.fn.b l.b;
  text : IsTextAmong l.b.arena.texts [];
  cells : AreDefaults l.b (take l.i (map (λ f. f.1) l.fields)) l.cells.items;
}
