use Rattle.cell_arena.proofs.Growing.{Grows-trans}
use Rattle.rewriting_tests.proofs.value_cells.bits_of.Goals as goal

pub loop-i-preserved : goal.loop-i-preserved
loop-i-preserved c = Grows-trans _ _ _ c.loop-i.invariant c.in_ok-l.ensures

pub returns-in_err-push : goal.returns-in_err-push
returns-in_err-push c = Grows-trans _ _ _ c.loop-i.invariant c.in_ok-l.ensures
