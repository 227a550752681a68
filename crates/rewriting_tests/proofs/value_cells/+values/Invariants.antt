use Rattle.std.proofs.Common.{map, take}
use Rattle.cell_arena.specs.Growth.{Grows}
use Rattle.rewriting_tests.specs.OfTypes.{OfTypes}
use Rattle.rewriting_tests.proofs.ValueCells.{AreArrows, AreEdges, AreItems}
use Rattle.rewriting_tests.proofs.value_cells.+values.Given as goal

abbrev pub invariant-set_cell-loop-i : goal.invariant-set_cell-loop-i
invariant-set_cell-loop-i l = record {
  grows : Grows l.fn.b l.b;
  edges : AreEdges l.b l.ty l.edges.items;
}

abbrev pub invariant-function_cell-loop-i : goal.invariant-function_cell-loop-i
invariant-function_cell-loop-i l = record {
  grows : Grows l.fn.b l.b;
  arrows : AreArrows l.b l.from l.to l.arrows.items;
}

abbrev pub invariant-sequence_cell-loop-i : goal.invariant-sequence_cell-loop-i
invariant-sequence_cell-loop-i l = record {
  grows : Grows l.fn.b l.b;
  cells : AreItems l.b.arena.kinds l.ty l.cells.items;
}

abbrev pub invariant-item_cells-loop-i : goal.invariant-item_cells-loop-i
invariant-item_cells-loop-i l = record {
  grows : Grows l.fn.b l.b;
  cells : OfTypes l.b.arena.kinds (take l.i l.types) l.cells.items;
}

abbrev pub invariant-field_cells-loop-i : goal.invariant-field_cells-loop-i
invariant-field_cells-loop-i l = record {
  grows : Grows l.fn.b l.b;
  cells : OfTypes l.b.arena.kinds (take l.i (map (λ f. f.1) l.fields)) l.cells.items;
}
