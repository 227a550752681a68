use Rattle.std.proofs.Common.{refl, Some}
use Rattle.std.proofs.lemmas.Result.{IfOk-weaker}
use Rattle.tla_values.specs.Integers.{floor_quotient}
use Rattle.tla_meaning.specs.declared.op.Op.TheVariants as op
use Rattle.tla_meaning.specs.Numbers.{quotient}
use Rattle.value_operators.proofs.NewCells.{grows-on}
use Rattle.value_operators.proofs.NumberRows.{IsDividing, word-in, divided-row}
use Rattle.value_operators.proofs.numbers.quotient.Goals as goal

pub divide-requires-clause-first : goal.divide-requires-clause-first
divide-requires-clause-first c =
    let b = c.args.b.now in
    rw c.width-width.ensures.same (word-in b.arena _ _ c.in-Some.ensures.words.first b.fits)

pub divide-requires-clause-second : goal.divide-requires-clause-second
divide-requires-clause-second c =
    let b = c.args.b.now in
    rw c.width-width.ensures.same (word-in b.arena _ _ c.in-Some.ensures.words.second b.fits)

pub returns-clause-grows : goal.returns-clause-grows
returns-clause-grows c = grows-on _ _ _ c.in_ok-parts.ensures.grows refl c.number_or_wrong.ensures.grows

pub returns-clause-row : goal.returns-clause-row
returns-clause-row c =
    let b = c.args.b.now in
    let grows = c.number_or_wrong.ensures.grows in
    let all = grows-on b _ _ c.in_ok-parts.ensures.grows refl grows in
    let words = c.in-Some.ensures.words in
    let parts = rw c.width-width.ensures.same at c.in_ok-parts.ensures.divides in
    let row : IsDividing b.arena.width op.Div floor_quotient (quotient (Some b.arena.width)) =
    record { is = λ p vs. refl; zeroth = λ p m. refl; below = λ p m k. refl; above = λ p m k. refl } in
    IfOk-weaker c.number_or_wrong.result _ _
    (λ r h. divided-row b _ _ op.Div c.args.x c.args.y _ _ _ grows all words _ floor_quotient
    (quotient (Some b.arena.width)) r row parts.quotient parts.none parts.whole h)
    c.number_or_wrong.ensures.shows
