use Rattle.std.proofs.Common.{take}
use Rattle.cell_arena.specs.Growth.{Grows}
use Rattle.rewriting_tests.specs.OfTypes.{OfTypes}
use Rattle.rewriting_tests.proofs.settings.name_cells.Given as goal

abbrev pub invariant-loop-i : goal.invariant-loop-i
invariant-loop-i l = record {
  grows : Grows l.fn.b l.b;
  cells : OfTypes l.b.arena.kinds (take l.i l.types) l.cells.items;
}
