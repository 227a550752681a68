use Rattle.function_operators.proofs.Shown.{field_shown}
use Rattle.function_operators.proofs.composites.field.Goals as goal

pub returns-clause-row : goal.returns-clause-row
returns-clause-row c = field_shown c.args.b.now _ _ _ _ c.requires c.field-id.ensures c.sure.ensures.shows

pub returns-clause-cells : goal.returns-clause-cells
returns-clause-cells c = λ names s i h lt is. c.sure.ensures.cells _ (c.field-id.ensures.sort names s i h lt is)
