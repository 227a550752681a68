use Rattle.rewriting_tests.proofs.ValueCells.{chosen-type, one-type}
use Rattle.rewriting_tests.proofs.settings.chosen.Goals as goal

pub choose_cell-requires-clause-types : goal.choose_cell-requires-clause-types
choose_cell-requires-clause-types c = one-type _ _ _ _ c.requires.kind c.requires.first c.requires.second

pub returns-clause-cell : goal.returns-clause-cell
returns-clause-cell c = chosen-type _ _ _ _ _ _ _ c.requires.first c.requires.second c.in_ok-id.ensures.chosen
