use Rattle.std.proofs.Common.{◌≡◌, ◌++◌, List, ap, sym, ◌∙◌, subst, refl, codes}
use Rattle.std.proofs.lemmas.Bool.{false≢true}
use Rattle.std.proofs.lemmas.Option.{MatchOption-at_none, MatchOption-at_some}
use Rattle.std.proofs.lemmas.Result.{err_from_is_err_and}
use Rattle.tla_values.specs.Sets.{Normal}
use Rattle.tla_values.specs.Show.{text_of}
use Rattle.trace_text.proofs.BlockLines.{line_made, no_front, refused, text_behind, value_behind}
use Rattle.trace_text.proofs.blocks.read_line.Goals as goal

pub returns-in_default : goal.returns-in_default
returns-in_default c = no_front c.args.name.now c.args.bytes.now c.in_default.ensures

pub returns-in_err-value : goal.returns-in_err-value
returns-in_err-value c =
    let p = err_from_is_err_and c.from_residual.result c.from_residual.ensures.1 in
    rw (p.1, p.2) (refused c.args.name.now c.args.bytes.now c.in_err-value.field-0.0 (λ v rest line.
    c.in_err-value.ensures.reads v (codes "\n" ++ rest) line.value.fits refl
    (text_behind c.args.name.now c.args.bytes.now c.in-Some.value_text.now v rest c.in-Some.ensures line)))

pub returns-then-not-is_normal : goal.returns-then-not-is_normal
returns-then-not-is_normal c = λ v rest line.
    let same : (c.in_ok-value.value ≡ v) × (c.in_ok-value.field-0-1.now ≡ codes "\n" ++ rest) =
    c.in_ok-value.ensures.reads v (codes "\n" ++ rest) line.value.fits refl
    (text_behind c.args.name.now c.args.bytes.now c.in-Some.value_text.now v rest c.in-Some.ensures line) in
    false≢true (sym c.if-not-is_normal.true ∙ c.is_normal.ensures.1 (subst Normal (sym same.0) line.value.normal))

pub returns-in-Some-2 : goal.returns-in-Some-2
returns-in-Some-2 c =
    line_made c.args.name.now c.args.bytes.now c.in-Some.value_text.now c.in_ok-value.value c.in-Some-2.rest.now
    (record { normal = c.is_normal.ensures.0 c.if-not-is_normal.false; fits = c.in_ok-value.ensures.fits }) c.in-Some.ensures
    (MatchOption-at_some _ (λ (rest : _). c.in-Some.value_text.now ≡ (text_of c.in_ok-value.value ++ codes "\n") ++ rest.now) c.in-Some-2.rest c.in-Some-2.is c.in_ok-rest.ensures)

pub returns : goal.returns
returns c = λ v rest line.
    let same : (c.in_ok-value.value ≡ v) × (c.in_ok-value.field-0-1.now ≡ codes "\n" ++ rest) =
    c.in_ok-value.ensures.reads v (codes "\n" ++ rest) line.value.fits refl
    (text_behind c.args.name.now c.args.bytes.now c.in-Some.value_text.now v rest c.in-Some.ensures line) in
    MatchOption-at_none ((q : List _) → c.in-Some.value_text.now ≡ (text_of c.in_ok-value.value ++ codes "\n") ++ q → ⊥)
    (λ (q : _). c.in-Some.value_text.now ≡ (text_of c.in_ok-value.value ++ codes "\n") ++ q.now) c.in-None.is c.in_ok-rest.ensures rest
    (value_behind c.args.name.now c.args.bytes.now c.in-Some.value_text.now v rest c.in-Some.ensures line ∙ ap (λ w. (text_of w ++ codes "\n") ++ rest) (sym same.0))
