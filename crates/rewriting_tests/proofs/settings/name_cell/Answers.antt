use Rattle.rewriting_tests.proofs.ValueCells.{type-later}
use Rattle.rewriting_tests.proofs.settings.name_cell.Goals as goal

pub chosen-requires-clause-first : goal.chosen-requires-clause-first
chosen-requires-clause-first c =
    type-later _ _ _ _ (type-later _ _ _ _ c.in_ok-x.ensures.cell c.in_ok-y.ensures.grows) c.in_ok-l.ensures.grows

pub chosen-requires-clause-second : goal.chosen-requires-clause-second
chosen-requires-clause-second c = type-later _ _ _ _ c.in_ok-y.ensures.cell c.in_ok-l.ensures.grows
