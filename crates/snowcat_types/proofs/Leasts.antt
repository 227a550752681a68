-- The least of places.
use Rattle.std.proofs.Common.{◌≡◌, Bool, true, false, true≢false, ◌⊎◌, inl, inr, refl, sym, ◌∙◌, ap, subst, Option, Some, None}
use Rattle.std.specs.Prelude.{if◌then◌else◌}
use Rattle.std.specs.declared.cmp.Ordering.{Ordering}
use Rattle.std.specs.declared.cmp.Ordering.TheVariants.{Less, Equal, Greater}
use Rattle.std.specs.Ordering.{is_lt}
use Rattle.std.proofs.lemmas.Cmp.{nat_list_cmp_total, tied_itself}
use Rattle.tla_meaning.specs.declared.place.Place.{Place}
use Rattle.tla_meaning.specs.Outcomes.{before, place_cmp, place_parts}
use Rattle.snowcat_types.specs.inner.Telling.{earlier, IsLeastOf}

pub before_itself : (p : Place) → before p p ≡ false
before_itself p = ap is_lt (tied_itself nat_list_cmp_total (place_parts p))

is_less : (o : Ordering) → is_lt o ≡ true → o ≡ Less
is_less Less e = refl
is_less Equal e = absurd (true≢false (sym e))
is_less Greater e = absurd (true≢false (sym e))

by_test : (b : Bool) → (b ≡ true → ⊥) → b ≡ false
by_test true n = absurd (n refl)
by_test false n = refl

-- what is not before q is not before what is before q
not_before : (p q r : Place) → before p q ≡ true → before r q ≡ false → before r p ≡ false
not_before p q r e f =
    by_test (before r p) (λ h.
    let through : place_cmp r q ≡ Less =
    nat_list_cmp_total.trans (place_parts r) (place_parts p) (place_parts q) (is_less (place_cmp r p) h) (is_less (place_cmp p q) e) in
    true≢false (sym (ap is_lt through) ∙ f))

pub least_same : (B C : Place → Type 0) (w : Option Place) → IsLeastOf B w → ((p : Place) → B p → C p) → ((p : Place) → C p → B p) → IsLeastOf C w
least_same B C None h f g = λ p c. h p (g p c)
least_same B C (Some q) h f g = (f q h.0, λ p c. h.1 p (g p c))

-- one more place that is not before the least
pub least_late : (B C : Place → Type 0) (w : Option Place) (q a : Place) → w ≡ Some q → IsLeastOf B w → before a q ≡ false →
    ((p : Place) → B p → C p) → ((p : Place) → C p → B p ⊎ (p ≡ a)) → IsLeastOf C w
least_late B C w q a e h n f g =
    let P : Option Place → Type 0 = λ z. IsLeastOf B z in
    let Q : Option Place → Type 0 = λ z. IsLeastOf C z in
    let k = subst P e h in
    subst Q (sym e) (
      f q k.0,
      λ p c. elim (g p c) [
        | inl b ↦ k.1 p b
        | inr d ↦ ap (λ z. before z q) d ∙ n
      ],
    )

choose_later : (a q : Place) (b : Bool) → before a q ≡ b → earlier (Some q) a ≡ (if b then a else q)
choose_later a q b e = ap (λ z. if z then a else q) e

-- one more place that is one of them
pub least_new : (B C : Place → Type 0) (w : Option Place) (a : Place) → IsLeastOf B w → C a →
    ((p : Place) → B p → C p) → ((p : Place) → C p → B p ⊎ (p ≡ a)) → IsLeastOf C (Some (earlier w a))
least_new B C None a h c f g = (
  c,
  λ p d. elim (g p d) [
    | inl b ↦ absurd (h p b)
    | inr e ↦ ap (λ z. before z a) e ∙ before_itself a
  ],
)
least_new B C (Some q) a h c f g = by_order (before a q) refl
  where
    by_order : (b : Bool) → before a q ≡ b → IsLeastOf C (Some (earlier (Some q) a))
    by_order true e =
        let P : Place → Type 0 = λ z. IsLeastOf C (Some z) in
        subst P (sym (choose_later a q true e)) (
          c,
          λ p d. elim (g p d) [
            | inl b ↦ not_before a q p e (h.1 p b)
            | inr i ↦ ap (λ z. before z a) i ∙ before_itself a
          ],
        )
    by_order false e =
        let P : Place → Type 0 = λ z. IsLeastOf C (Some z) in
        subst P (sym (choose_later a q false e)) (
          f q h.0,
          λ p d. elim (g p d) [
            | inl b ↦ h.1 p b
            | inr i ↦ ap (λ z. before z q) i ∙ e
          ],
        )
