use Rattle.std.proofs.Common.{◌∷◌, [], sym, ap, ◌∙◌, not}
use Rattle.std.proofs.lemmas.Result.{IfOk-weaker}
use Rattle.tla_meaning.specs.Operators.{yes_no}
use Rattle.sat_formula.specs.Lit.{lit_value}
use Rattle.cell_arena.specs.Decode.{decode}
use Rattle.cell_merge.proofs.Edges.{negated-value}
use Rattle.tla_meaning.specs.declared.op.Op.TheVariants as op
use Rattle.value_operators.proofs.NewCells.{row-by}
use Rattle.value_operators.proofs.Rows.{truth-row}
use Rattle.value_operators.proofs.truths.not.Goals as goal

pub returns-clause-row : goal.returns-clause-row
returns-clause-row c =
    let b = c.args.b.now in
    let x = c.bit_of-holds.result in
    IfOk-weaker c.truth_of.result _ _
    (λ r h. row-by b _ op.Not (c.args.x ∷ []) r _ c.truth_of.ensures.grows h
    (λ a s p. ap yes_no (negated-value x c.negated.result a c.negated.ensures)
    ∙ sym (truth-row p (λ t. yes_no (not t)) (decode b.arena a c.args.x) (lit_value x a)
    (c.bit_of-holds.ensures.value a))))
    c.truth_of.ensures.shows
