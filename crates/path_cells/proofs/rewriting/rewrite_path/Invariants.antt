use Rattle.std.proofs.Common.{drop, take}
use Rattle.cell_arena.specs.Growth.{Grows}
use Rattle.path_cells.specs.inner.Walking.{IsWalking}
use Rattle.path_cells.proofs.rewriting.rewrite_path.Given as goal

abbrev pub invariant-loop-i : goal.invariant-loop-i
invariant-loop-i l = record {
  grows : Grows l.fn.b l.b;
  walks : IsWalking l.fn.b l.b l.env (take l.i l.steps) (drop l.i l.steps) l.walk;
}
