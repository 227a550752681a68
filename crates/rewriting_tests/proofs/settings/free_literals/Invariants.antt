use Rattle.cell_arena.specs.Growth.{Grows}
use Rattle.rewriting_tests.proofs.settings.free_literals.Given as goal

abbrev pub invariant-loop-i : goal.invariant-loop-i
invariant-loop-i l = Grows l.fn.b l.b
