use Rattle.cell_arena.proofs.Growing.{Grows-trans}
use Rattle.rewriting_tests.proofs.settings.free_literals.Goals as goal

pub loop-i-preserved : goal.loop-i-preserved
loop-i-preserved c = Grows-trans _ _ _ c.loop-i.invariant c.in_ok-_l.ensures
