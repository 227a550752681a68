use Rattle.std.proofs.Common.{map, take}
use Rattle.cell_arena.specs.Growth.{Grows}
use Rattle.path_cells.specs.inner.Steps.{PicksEach}
use Rattle.path_cells.proofs.choosing.pick_each.Given as goal

abbrev pub invariant-loop-i : goal.invariant-loop-i
invariant-loop-i l = record {
  grows : Grows l.fn.b l.b;
  picks : PicksEach l.fn.b l.b (take l.i (map (λ x. x.cell) l.xs)) l.cells.items l.lits.items;
}
