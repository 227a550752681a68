use Rattle.std.proofs.Common.{◌∷◌, [], ap}
use Rattle.std.proofs.lemmas.Result.{IfOk-weaker}
use Rattle.tla_meaning.specs.Operators.{yes_no}
use Rattle.cell_arena.proofs.Growing.{Grows-trans, Satisfies-before}
use Rattle.tla_meaning.specs.declared.op.Op.TheVariants as op
use Rattle.value_operators.proofs.NewCells.{row-by}
use Rattle.value_operators.proofs.truths.equal.Goals as goal

pub returns-clause-row : goal.returns-clause-row
returns-clause-row c =
    let b = c.args.b.now in
    let grows = c.truth_of.ensures.grows in
    let all = Grows-trans _ _ _ c.in_ok-holds.ensures.grows grows in
    IfOk-weaker c.truth_of.result _ _
    (λ r h. row-by b _ op.Eq (c.args.x ∷ c.args.y ∷ []) r _ all h
    (λ a s p. ap yes_no (c.in_ok-holds.ensures.value.value a (Satisfies-before _ _ a grows s))))
    c.truth_of.ensures.shows
