use Rattle.typed_cells.proofs.DefaultCells.{of-bool, of-int, of-text}
use Rattle.rewriting_tests.proofs.value_cells.plain_cell.Goals as goal

pub returns-in_ok-id-in-Bool-clause-cell : goal.returns-in_ok-id-in-Bool-clause-cell
returns-in_ok-id-in-Bool-clause-cell c = of-bool _ _ _ c.in-Bool.is c.in_ok-id-in-Bool.ensures.sort

pub returns-in_ok-id-in-Int-clause-cell : goal.returns-in_ok-id-in-Int-clause-cell
returns-in_ok-id-in-Int-clause-cell c = of-int _ _ _ c.in-Int.is c.in_ok-id-in-Int.ensures.sort

pub returns-in_ok-id-in-Str-clause-cell : goal.returns-in_ok-id-in-Str-clause-cell
returns-in_ok-id-in-Str-clause-cell c = of-text _ _ _ c.in-Str.is c.in_ok-id-in-Str.ensures.sort
