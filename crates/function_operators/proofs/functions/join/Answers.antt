use Rattle.std.proofs.Common.{Some, [], ◌∷◌}
use Rattle.tla_meaning.specs.declared.op.Op.TheVariants as op
use Rattle.function_operators.proofs.Shown.{value_shown}
use Rattle.function_operators.proofs.Rows.{row_join}
use Rattle.function_operators.proofs.Values.{function_value}
use Rattle.function_operators.proofs.functions.join.Goals as goal

pub returns-clause-row : goal.returns-clause-row
returns-clause-row c =
    let b = c.args.b.now in
    value_shown b _ op.Merge (c.args.f ∷ c.args.g ∷ []) _ _ _ c.in_ok-id.ensures.grows c.in_ok-id.ensures.made.value
    c.sure.ensures.shows
    (λ a p. row_join (Some b.arena.width) p _ _
    (function_value b.arena a c.args.f c.requires.from c.requires.to b.built c.requires.left)
    (function_value b.arena a c.args.g c.requires.from c.requires.to b.built c.requires.right))

pub returns-clause-cells : goal.returns-clause-cells
returns-clause-cells c = λ s t h k. c.sure.ensures.cells _ (c.in_ok-id.ensures.made.sort s t (h, k))
