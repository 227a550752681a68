use Rattle.cell_merge.specs.Sorts.{OfSort, number, set_of}
use Rattle.cell_tests.proofs.sizes.chosen_often.Given as goal

abbrev pub invariant-loop-i : goal.invariant-loop-i
invariant-loop-i l = record {
  x : OfSort l.b.arena.kinds (set_of number) l.x;
  y : OfSort l.b.arena.kinds (set_of number) l.y;
}
