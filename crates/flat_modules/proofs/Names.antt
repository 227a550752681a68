-- Equal names, and names among others.
use Rattle.std.proofs.Common.{◌≡◌, ◌∙◌, Bool, true, false, List, [], ◌∷◌, ◌++◌, ◌||◌, ℕ, refl, ap, sym, subst}
use Rattle.std.proofs.lemmas.Cmp.{nat_cmp_total, tied_itself}
use Rattle.std.proofs.lemmas.List.Folds.{list_any-append}
use Rattle.std.specs.Ordering.{is_eq, ordering_then}
use Rattle.std.specs.declared.cmp.Ordering.TheVariants.{Equal}
use Rattle.tla_meaning.proofs.Laws.{equal_of}
use Rattle.tla_meaning.specs.ReadingOrder.{is_among}
use Rattle.tla_meaning.specs.Scopes.{same_text}
use Rattle.tla_values.proofs.TotalLemmas.{texts_equal}
use Rattle.tla_values.specs.Order.{text_cmp}

text_self : (x : List ℕ) → text_cmp x x ≡ Equal
text_self [] = refl
text_self (n ∷ x) = ap (λ o. ordering_then o (text_cmp x x)) (tied_itself nat_cmp_total n) ∙ text_self x

pub same_self : (x : List ℕ) → same_text x x ≡ true
same_self x = ap is_eq (text_self x)

pub same_is : (x y : List ℕ) → same_text x y ≡ true → x ≡ y
same_is x y h = texts_equal x y (equal_of (text_cmp x y) h)

both_ways : (b c : Bool) → (b ≡ true → c ≡ true) → (c ≡ true → b ≡ true) → b ≡ c
both_ways true c f g = sym (f refl)
both_ways false false f g = refl
both_ways false true f g = g refl

turned : (x y : List ℕ) → same_text x y ≡ true → same_text y x ≡ true
turned x y h = subst (λ z. same_text z x ≡ true) (same_is x y h) (same_self x)

pub same_turned : (x y : List ℕ) → same_text x y ≡ same_text y x
same_turned x y = both_ways (same_text x y) (same_text y x) (turned x y) (turned y x)

-- what is equal to a name among them is among them
pub among_same : (x y : List ℕ) (xs : List (List ℕ)) → same_text x y ≡ true → is_among x xs ≡ true → is_among y xs ≡ true
among_same x y xs h m = subst (λ z. is_among z xs ≡ true) (same_is x y h) m

pub among_more : (x : List ℕ) (xs ys : List (List ℕ)) → is_among x (xs ++ ys) ≡ (is_among x xs || is_among x ys)
among_more x xs ys = list_any-append (same_text x) xs ys
