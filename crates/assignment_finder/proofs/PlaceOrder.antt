-- The order of places.
use Rattle.std.proofs.Common.{◌≡◌, true, false, refl, sym, ◌∙◌, ap, subst, get_or}
use Rattle.std.proofs.Common.{ℕ, List}
use Rattle.std.specs.declared.cmp.Ordering.{Ordering}
use Rattle.std.specs.declared.cmp.Ordering.TheVariants.{Less, Equal, Greater}
use Rattle.std.specs.Ordering.{is_lt, is_eq, ordering_reverse}
use Rattle.std.proofs.lemmas.Cmp.{nat_list_cmp_total}
use Rattle.std.proofs.lemmas.Map.Text.{is_eq-slice_cmp}
use Rattle.std.proofs.lemmas.Slice.Eq.{bytes_eq-Decides}
use Rattle.tla_meaning.specs.declared.place.Place.{Place}
use Rattle.tla_meaning.specs.Outcomes.{before, place_cmp, place_parts}
use Rattle.tla_meaning.proofs.Views.{false≢true}

place_same : (p q : Place) → place_cmp p q ≡ Equal → p ≡ q
place_same p q e =
    let same : place_parts p ≡ place_parts q =
    (bytes_eq-Decides (place_parts p) (place_parts q)).0
    (sym (is_eq-slice_cmp (place_parts p) (place_parts q)) ∙ ap is_eq e) in
    ap (λ (l : List ℕ). record { file = get_or l 0 0; line = get_or l 1 0; col = get_or l 2 0 }) same

reversed : (p q : Place) (o : Ordering) → place_cmp q p ≡ o → place_cmp p q ≡ ordering_reverse o
reversed p q o e = nat_list_cmp_total.antisymm (place_parts p) (place_parts q) ∙ ap ordering_reverse e

not_before_by : (p q r : Place) (a b c : Ordering) → place_cmp q p ≡ a → place_cmp r q ≡ b → place_cmp r p ≡ c →
    is_lt a ≡ false → is_lt b ≡ false → is_lt c ≡ false
not_before_by p q r a b Equal ea eb ec na nb = refl
not_before_by p q r a b Greater ea eb ec na nb = refl
not_before_by p q r Less b Less ea eb ec na nb = na
not_before_by p q r Equal b Less ea eb ec na nb =
    let less : place_cmp r q ≡ Less = subst (λ (x : Place). place_cmp r x ≡ Less) (sym (place_same q p ea)) ec in
    sym (ap is_lt less) ∙ ap is_lt eb ∙ nb
not_before_by p q r Greater b Less ea eb ec na nb =
    let less : place_cmp r q ≡ Less = nat_list_cmp_total.trans (place_parts r) (place_parts p) (place_parts q) ec
    (reversed p q Greater ea) in
    sym (ap is_lt less) ∙ ap is_lt eb ∙ nb

-- where q is not before p, and r not before q, r is not before p
pub not_before : (p q r : Place) → before q p ≡ false → before r q ≡ false → before r p ≡ false
not_before p q r = not_before_by p q r (place_cmp q p) (place_cmp r q) (place_cmp r p) refl refl refl

asymmetric_by : (p q : Place) (a b : Ordering) → place_cmp q p ≡ a → place_cmp p q ≡ b → is_lt a ≡ true → is_lt b ≡ false
asymmetric_by p q Less b ea eb h = sym (ap is_lt eb) ∙ ap is_lt (reversed p q Less ea)
asymmetric_by p q Equal b ea eb h = absurd (false≢true h)
asymmetric_by p q Greater b ea eb h = absurd (false≢true h)

pub asymmetric : (p q : Place) → before q p ≡ true → before p q ≡ false
asymmetric p q = asymmetric_by p q (place_cmp q p) (place_cmp p q) refl refl

equal_by : (o : Ordering) → is_eq o ≡ true → is_lt o ≡ false
equal_by Less h = absurd (false≢true h)
equal_by Equal h = refl
equal_by Greater h = refl

-- of two at one place none is before the other
pub equal_not_before : (p q : Place) → is_eq (place_cmp q p) ≡ true → before q p ≡ false
equal_not_before p q = equal_by (place_cmp q p)
