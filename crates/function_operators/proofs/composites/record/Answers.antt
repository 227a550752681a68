use Rattle.std.proofs.Common.{refl}
use Rattle.tla_meaning.specs.declared.op.Op.TheVariants as op
use Rattle.function_operators.proofs.Shown.{value_shown}
use Rattle.function_operators.proofs.composites.record.Goals as goal

pub returns-clause-row : goal.returns-clause-row
returns-clause-row c =
    value_shown c.args.b.now _ (op.Record c.args.names.now) c.args.fields.now _ _ _ c.in_ok-id.ensures.grows
    c.in_ok-id.ensures.value
    c.sure.ensures.shows (λ a p. refl)

pub returns-clause-cells : goal.returns-clause-cells
returns-clause-cells c = λ ss h. c.sure.ensures.cells _ (c.in_ok-id.ensures.sort ss h)
