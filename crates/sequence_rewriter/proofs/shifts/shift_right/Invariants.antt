use Rattle.std.proofs.Common.{◌≡◌, ◌^◌, take}
use Rattle.cell_arena.specs.Growth.{Grows}
use Rattle.sequence_rewriter.specs.inner.Shifts.{ShiftsRight}
use Rattle.sequence_rewriter.proofs.shifts.shift_right.Given as goal

abbrev pub invariant-loop-bit : goal.invariant-loop-bit
invariant-loop-bit l = record {
  grows : Grows l.fn.b l.b;
  by : l.by ≡ 2 ^ l.bit-index;
  shifts : ShiftsRight l.fn.b l.b (take l.bit-index l.bits) l.fn.cells.items l.out.items;
}
