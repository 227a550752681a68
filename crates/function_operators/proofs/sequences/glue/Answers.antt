use Rattle.std.proofs.Common.{Some, [], ◌∷◌}
use Rattle.tla_meaning.specs.declared.op.Op.TheVariants as op
use Rattle.function_operators.proofs.Shown.{value_shown}
use Rattle.function_operators.proofs.Rows.{row_glue}
use Rattle.function_operators.proofs.Values.{sequence_value}
use Rattle.function_operators.proofs.sequences.glue.Goals as goal

pub returns-clause-row : goal.returns-clause-row
returns-clause-row c =
    let b = c.args.b.now in
    value_shown b _ op.Concat (c.args.s ∷ c.args.t ∷ []) _ _ _ c.in_ok-id.ensures.grows c.in_ok-id.ensures.made.value
    c.sure.ensures.shows
    (λ a p. row_glue (Some b.arena.width) p _ _
    (sequence_value b.arena a c.args.s c.requires.sort b.built c.requires.left)
    (sequence_value b.arena a c.args.t c.requires.sort b.built c.requires.right))

pub returns-clause-cells : goal.returns-clause-cells
returns-clause-cells c = λ u h k. c.sure.ensures.cells _ (c.in_ok-id.ensures.made.sort u (h, k))
