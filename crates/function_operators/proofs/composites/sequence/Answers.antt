use Rattle.std.proofs.Common.{ap, sym}
use Rattle.tla_meaning.specs.declared.op.Op.TheVariants as op
use Rattle.tla_meaning.specs.declared.outcome.Outcome.TheVariants.{Val}
use Rattle.function_operators.proofs.Shown.{value_shown}
use Rattle.outcome_cells.proofs.OneText.{same-sequence}
use Rattle.function_operators.proofs.composites.sequence.Goals as goal

pub returns-clause-row : goal.returns-clause-row
returns-clause-row c =
    value_shown c.args.b.now _ op.Tuple c.args.items.items _ _ _ c.in_ok-id.ensures.grows c.in_ok-id.ensures.value
    c.sure.ensures.shows
    (λ a p. ap Val (sym (same-sequence _)))

pub returns-clause-cells : goal.returns-clause-cells
returns-clause-cells c = λ s h. c.sure.ensures.cells _ (c.in_ok-id.ensures.sort s h)
