use Rattle.std.proofs.Common.{[], take}
use Rattle.cell_arena.specs.Growth.{Grows}
use Rattle.typed_cells.specs.Known.{IsTextAmong}
use Rattle.typed_cells.specs.inner.Defaulted.{AreDefaults}
use Rattle.step_encoder.proofs.names.default_cells.Given as goal

abbrev pub invariant-loop-i : goal.invariant-loop-i
invariant-loop-i l = record {
  grows : Grows l.fn.b l.b;
  text : IsTextAmong l.b.arena.texts [];
  cells : AreDefaults l.b (take l.i l.types) l.cells.items;
}
