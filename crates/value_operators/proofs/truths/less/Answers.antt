use Rattle.std.proofs.Common.{◌∷◌, [], refl, sym, ap, ◌∙◌, int_lt}
use Rattle.std.proofs.lemmas.Result.{IfOk-weaker}
use Rattle.tla_meaning.specs.Operators.{yes_no}
use Rattle.cell_arena.proofs.Growing.{Satisfies-before}
use Rattle.cell_arena.specs.Decode.{decode}
use Rattle.tla_meaning.specs.declared.op.Op.TheVariants as op
use Rattle.value_operators.proofs.NewCells.{grows-on, row-by}
use Rattle.value_operators.proofs.NumberRows.{both-in}
use Rattle.value_operators.proofs.Rows.{numbers-row}
use Rattle.value_operators.proofs.truths.less.Goals as goal

pub less-requires-clause-words : goal.less-requires-clause-words
less-requires-clause-words c = both-in _ _ _ _ _ _ c.in-Some.ensures.words c.args.b.now.fits

pub returns-clause-grows : goal.returns-clause-grows
returns-clause-grows c = grows-on _ _ _ c.in_ok-holds.ensures.grows refl c.truth_of.ensures.grows

pub returns-clause-row : goal.returns-clause-row
returns-clause-row c =
    let b = c.args.b.now in
    let grows = c.truth_of.ensures.grows in
    let all = grows-on b _ _ c.in_ok-holds.ensures.grows refl grows in
    let words = c.in-Some.ensures.words in
    IfOk-weaker c.truth_of.result _ _
    (λ r h. row-by b _ op.Lt (c.args.x ∷ c.args.y ∷ []) r _ all h
    (λ a s p. ap yes_no (c.in_ok-holds.ensures.value.value a (Satisfies-before _ _ a grows s))
    ∙ sym (numbers-row p (λ m n. yes_no (int_lt m n)) (decode b.arena a c.args.x) (decode b.arena a c.args.y) _ _
    (words.left a) (words.right a))))
    c.truth_of.ensures.shows
