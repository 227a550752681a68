use Rattle.std.proofs.Common.{refl, ◌-ℤ◌}
use Rattle.std.proofs.lemmas.Result.{IfOk-weaker}
use Rattle.tla_meaning.specs.declared.op.Op.TheVariants as op
use Rattle.value_operators.proofs.NewCells.{grows-on}
use Rattle.value_operators.proofs.NumberRows.{both-in, exact-row}
use Rattle.value_operators.proofs.numbers.minus.Goals as goal

pub sub-requires-clause-words : goal.sub-requires-clause-words
sub-requires-clause-words c = both-in _ _ _ _ _ _ c.in-Some.ensures.words c.args.b.now.fits

pub returns-clause-grows : goal.returns-clause-grows
returns-clause-grows c = grows-on _ _ _ c.in_ok-word.ensures.grows refl c.number_or_big.ensures.grows

pub returns-clause-row : goal.returns-clause-row
returns-clause-row c =
    let b = c.args.b.now in
    let grows = c.number_or_big.ensures.grows in
    let all = grows-on b _ _ c.in_ok-word.ensures.grows refl grows in
    let words = c.in-Some.ensures.words in
    IfOk-weaker c.number_or_big.result _ _
    (λ r h. exact-row b _ _ op.Sub _ _ _ _ _ grows all words _ (λ m n. m -ℤ n) r (λ p vs. refl)
    c.in_ok-word.ensures.exact h)
    c.number_or_big.ensures.shows
