use Rattle.std.proofs.Common.{◌≡◌, ◌∙◌, sym, ap, subst, List, [], ◌++◌}
use Rattle.std.specs.Prelude.{ℕ}
use Rattle.snowcat_rows.specs.Types.{Term, mean}
use Rattle.snowcat_rows.specs.Texts.{type_text}
use Rattle.snowcat_rows.specs.Readings.{IsReadAs}
use Rattle.snowcat_rows.specs.Renamings.{Variants}
use Rattle.snowcat_rows.specs.Said.{IsSaid, IsReadBack}
use Rattle.type_tests.proofs.reading.read_again.Goals as goal

pub returns : goal.returns
returns c =
    let t = c.in_ok-first.first in
    let said : IsSaid (mean t) = c.said_types_are_spellable.ensures.read c.args.aliases.now c.args.text.now (mean t) c.in_ok-first.ensures.ok in
    let back : IsReadBack t = c.shown_types_are_read_back.ensures t c.in_ok-first.ensures.regular said in
    let shown : c.as_slice.result.now ≡ type_text t = c.as_slice.ensures.value ∙ c.in_ok-show_type.ensures.text ∙ ap (λ z. z ++ type_text t) c.new-out.ensures.items in
    let none : c.from_vec-none.result ≡ [] = c.from_vec-none.ensures ∙ c.new.ensures.items in
    let A : List (List ℕ × List ℕ) → Type 0 = λ z. IsReadAs z c.as_slice.result.now back.0 in
    let B : List ℕ → Type 0 = λ z. IsReadAs [] z back.0 in
    let again : mean c.in_ok-again.again ≡ back.0 = c.in_ok-again.ensures.only back.0 (subst A (sym none) (subst B (sym shown) back.1)) in
    let V : Term → Type 0 = λ z. Variants (mean t) z in
    (mean t, c.in_ok-first.ensures.ok, subst V (sym again) back.2)
