use Rattle.std.proofs.Common.{All}
use Rattle.cell_arena.specs.Growth.{Grows}
use Rattle.branch_cells.specs.Branches.{IsWhole}
use Rattle.branch_cells.specs.inner.Layers.{AreChosen}
use Rattle.branch_cells.proofs.merging.choose_each.Given as goal

abbrev pub ghost-choose_part : goal.ghost-choose_part
ghost-choose_part g a = g.names

abbrev pub invariant-loop-i : goal.invariant-loop-i
invariant-loop-i g l = record {
  grows : Grows l.fn.b l.b;
  chosen : AreChosen l.b l.bit l.parts l.half l.i l.out.items;
  whole : All (IsWhole l.b g.names) l.out.items;
}
