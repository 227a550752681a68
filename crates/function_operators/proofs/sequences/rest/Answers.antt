use Rattle.std.proofs.Common.{Some, [], ◌∷◌}
use Rattle.tla_meaning.specs.declared.op.Op.TheVariants as op
use Rattle.function_operators.proofs.Shown.{row_shown}
use Rattle.function_operators.proofs.Rows.{row_rest}
use Rattle.function_operators.proofs.Values.{sequence_value}
use Rattle.function_operators.proofs.sequences.rest.Goals as goal

pub returns-clause-row : goal.returns-clause-row
returns-clause-row c =
    let b = c.args.b.now in
    row_shown b _ op.Tail (c.args.s ∷ []) _ _ c.in_ok-id.ensures.grows
    (c.wrong_where.ensures.shows _ c.in_ok-id.ensures.part.yields)
    (λ a s p. row_rest (Some b.arena.width) p _
    (sequence_value b.arena a c.args.s c.requires.sort b.built c.requires.is))

pub returns-clause-cells : goal.returns-clause-cells
returns-clause-cells c = λ t h. c.wrong_where.ensures.cells _ (c.in_ok-id.ensures.part.sort t h)
