use Rattle.std.proofs.Common.{All, take}
use Rattle.cell_arena.specs.Growth.{Grows}
use Rattle.branch_cells.specs.Along.{ArePartsBetween}
use Rattle.branch_cells.specs.Branches.{IsWhole}
use Rattle.branch_cells.proofs.following.follow_each.Given as goal

abbrev pub ghost-follow : goal.ghost-follow
ghost-follow g a = g.names

abbrev pub invariant-loop-i : goal.invariant-loop-i
invariant-loop-i g l = record {
  grows : Grows l.fn.b l.b;
  parts : ArePartsBetween l.fn.b l.b l.way (take l.i l.paths) l.parts.items;
  whole : All (IsWhole l.b g.names) l.parts.items;
}
