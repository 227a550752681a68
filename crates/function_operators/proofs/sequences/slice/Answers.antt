use Rattle.std.proofs.Common.{Some, [], ◌∷◌}
use Rattle.tla_meaning.specs.declared.op.Op.TheVariants as op
use Rattle.function_operators.proofs.Shown.{row_shown}
use Rattle.function_operators.proofs.Rows.{row_slice}
use Rattle.function_operators.proofs.Values.{sequence_value, number_value}
use Rattle.function_operators.proofs.sequences.slice.Goals as goal

pub returns-clause-row : goal.returns-clause-row
returns-clause-row c =
    let b = c.args.b.now in
    row_shown b _ op.SubSeq (c.args.s ∷ c.args.m ∷ c.args.n ∷ []) _ _ c.in_ok-id.ensures.grows
    (c.wrong_where.ensures.shows _ c.in_ok-id.ensures.part.yields)
    (λ a s p. row_slice (Some b.arena.width) p _ _ _
    (sequence_value b.arena a c.args.s c.requires.sort b.built c.requires.sequence)
    (number_value b.arena a c.args.m b.built c.requires.first)
    (number_value b.arena a c.args.n b.built c.requires.last))

pub returns-clause-cells : goal.returns-clause-cells
returns-clause-cells c = λ t h. c.wrong_where.ensures.cells _ (c.in_ok-id.ensures.part.sort t h)
