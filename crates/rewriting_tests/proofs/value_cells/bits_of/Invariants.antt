use Rattle.cell_arena.specs.Growth.{Grows}
use Rattle.rewriting_tests.proofs.value_cells.bits_of.Given as goal

abbrev pub invariant-loop-i : goal.invariant-loop-i
invariant-loop-i l = Grows l.fn.b l.b
