-- Texts that are kept once.
use Rattle.std.proofs.Common.{◌≡◌, ℕ, ◌+◌, ◌<◌, length, take, get_or, Bool, true, false, not, ◌&&◌, ◌||◌, List, [], ◌∷◌, ◌++◌, map, refl, sym, ◌∙◌, ap, true≢false}
use Rattle.std.specs.Prelude.{if◌then◌else◌}
use Rattle.std.specs.List.{list_any}
use Rattle.std.proofs.lemmas.List.{map-append, take_more}
use Rattle.std.proofs.lemmas.List.Folds.{list_all-append, list_any-append}
use Rattle.std.proofs.lemmas.Map.Text.{is_eq-slice_cmp}
use Rattle.std.proofs.lemmas.Slice.Eq.{bytes_eq-Decides}
use Rattle.tla_values.specs.Order.{same_value}
use Rattle.tla_values.specs.Sets.{distinct, member}
use Rattle.tla_values.specs.declared.value.Value.TheVariants as value
use Rattle.tla_meaning.specs.Scopes.{same_text}
use Rattle.cell_arena.specs.Cells.{AllDiffer}
use Rattle.cell_arena.proofs.Differing.{same-texts}
use Rattle.system_texts.specs.inner.Gathered.{are_among}

abbrev Texts : Type 0
Texts = List (List ℕ)

-- ---- equal texts

text_is : (x y : List ℕ) → same_text x y ≡ true → x ≡ y
text_is x y e = (bytes_eq-Decides x y).0 (sym (is_eq-slice_cmp x y) ∙ e)

is_text : (x y : List ℕ) → x ≡ y → same_text x y ≡ true
is_text x y e = is_eq-slice_cmp x y ∙ (bytes_eq-Decides x y).1 e

turned : (x y : List ℕ) → same_text x y ≡ false → same_text y x ≡ false
turned x y e = by (same_text y x) refl
  where
    by : (b : Bool) → same_text y x ≡ b → same_text y x ≡ false
    by true f = absurd (true≢false (sym (is_text x y (sym (text_is y x f))) ∙ e))
    by false f = f

pub same_is : (x y : List ℕ) → same_value (value.Text x) (value.Text y) ≡ same_text x y
same_is x y = same-texts x y (same_text x y) ((λ e. text_is x y e), (λ e. is_text x y e))

pub member_is : (x : List ℕ) (ts : Texts) → member (value.Text x) (map (λ t. value.Text t) ts) ≡ list_any (same_text x) ts
member_is x [] = refl
member_is x (t ∷ ts) =
    ap (λ b. b || member (value.Text x) (map (λ t. value.Text t) ts)) (same_is x t) ∙ ap (λ b. same_text x t || b) (member_is x ts)

-- ---- one text more

or_left : (p q : Bool) → p ≡ true → (p || q) ≡ true
or_left p q e = ap (λ b. b || q) e

or_right : (p q : Bool) → q ≡ true → (p || q) ≡ true
or_right true q e = refl
or_right false q e = e

both : (p q : Bool) → p ≡ true → q ≡ true → (p && q) ≡ true
both p q e f = ap (λ b. b && q) e ∙ f

first : (p q : Bool) → (p && q) ≡ true → p ≡ true
first true q e = refl
first false q e = e

second : (p q : Bool) → (p && q) ≡ true → q ≡ true
second true q e = e
second false q e = absurd (true≢false (sym e))

among_more : (ts xs : Texts) (y : List ℕ) → are_among ts xs ≡ true → are_among (ts ++ y ∷ []) xs ≡ true
among_more ts [] y h = refl
among_more ts (x ∷ xs) y h =
    both (list_any (same_text x) (ts ++ y ∷ [])) (are_among (ts ++ y ∷ []) xs)
    (list_any-append (same_text x) ts (y ∷ []) ∙ or_left (list_any (same_text x) ts) (list_any (same_text x) (y ∷ [])) (first _ _ h))
    (among_more ts xs y (second _ _ h))

here : (ts : Texts) (y : List ℕ) → list_any (same_text y) (ts ++ y ∷ []) ≡ true
here ts y =
    list_any-append (same_text y) ts (y ∷ [])
    ∙ or_right (list_any (same_text y) ts) (same_text y y || false) (or_left (same_text y y) false (is_text y y refl))

none_false : (p q : Bool) → (p || q) ≡ false → (p ≡ false) × (q ≡ false)
none_false true q e = absurd (true≢false e)
none_false false q e = (refl, e)

and_not : (p q : Bool) → q ≡ false → (p || (q || false)) ≡ p
and_not true q e = refl
and_not false q e = ap (λ b. b || false) e

differ_more : (ts : Texts) (y : List ℕ) → AllDiffer ts → list_any (same_text y) ts ≡ false → AllDiffer (ts ++ y ∷ [])
differ_more [] y d n = refl
differ_more (t ∷ ts) y d n =
    both (not (member (value.Text t) (map (λ t. value.Text t) (ts ++ y ∷ [])))) (distinct (map (λ t. value.Text t) (ts ++ y ∷ [])))
    (ap not (member_is t (ts ++ y ∷ []) ∙ list_any-append (same_text t) ts (y ∷ [])
    ∙ and_not (list_any (same_text t) ts) (same_text t y) (turned y t (none_false (same_text y t) (list_any (same_text y) ts) n).0)
    ∙ sym (member_is t ts)) ∙ first _ _ d)
    (differ_more ts y (second (not (member (value.Text t) (map (λ t. value.Text t) ts))) _ d) (none_false (same_text y t) (list_any (same_text y) ts) n).1)

-- ---- a step along the texts: `f` and `g` read what is kept and what is walked

module _ {R S : Type 0} (f : R → List ℕ) (g : S → List ℕ) where
  among_keys : (x : List ℕ) (test : R → Bool) (ks : List R) → ((y : R) → test y ≡ same_text x (f y)) →
      list_any test ks ≡ list_any (same_text x) (map f ks)
  among_keys x test [] h = refl
  among_keys x test (k ∷ ks) h =
      ap (λ b. b || list_any test ks) (h k) ∙ ap (λ b. same_text x (f k) || b) (among_keys x test ks h)

  -- what is kept after the i-th text, which was among the texts or not
  module _ (test : R → Bool) (ks : List R) (k : R) (ss : List S) (i : ℕ) (s : S) (once : Texts)
      (is : map f ks ≡ once) (so_far : are_among once (map g (take i ss)) ≡ true) (same : (y : R) → test y ≡ same_text (f k) (f y)) (read : f k ≡ g s)
      (lt : i < length ss) (at : s ≡ get_or ss i s) where
    among : (b : Bool) → list_any test ks ≡ b → list_any (same_text (g s)) once ≡ b
    among b e = ap (list_any (same_text (g s))) (sym is) ∙ sym (among_keys (g s) test ks (λ y. same y ∙ ap (λ x. same_text x (f y)) read)) ∙ e

    walked : map g (take (i + 1) ss) ≡ map g (take i ss) ++ g s ∷ []
    walked =
        ap (map g) (take_more ss i s lt) ∙ map-append g (take i ss) (get_or ss i s ∷ [])
        ∙ ap (λ x. map g (take i ss) ++ g x ∷ []) (sym at)

    one_more : (ts : Texts) → are_among ts (map g (take i ss)) ≡ true → list_any (same_text (g s)) ts ≡ true →
        are_among ts (map g (take (i + 1) ss)) ≡ true
    one_more ts h e =
        ap (are_among ts) walked ∙ list_all-append (λ x. list_any (same_text x) ts) (map g (take i ss)) (g s ∷ [])
        ∙ both (are_among ts (map g (take i ss))) (list_any (same_text (g s)) ts && true) h (both (list_any (same_text (g s)) ts) true e refl)

    pub known_text : (r : Bool) → r ≡ not (list_any test ks) → r ≡ false → (ks' : List R) → ks' ≡ (if list_any test ks then ks else ks ++ k ∷ []) →
        (map f ks' ≡ once) × (are_among once (map g (take (i + 1) ss)) ≡ true)
    known_text r e h ks' keys = by (list_any test ks) refl (sym e ∙ h)
      where
        by : (b : Bool) → list_any test ks ≡ b → not b ≡ false → (map f ks' ≡ once) × (are_among once (map g (take (i + 1) ss)) ≡ true)
        by true a n = (ap (map f) (keys ∙ ap (λ b. if b then ks else ks ++ k ∷ []) a) ∙ is, one_more once so_far (among true a))
        by false a n = absurd (true≢false n)

    pub new_text : (r : Bool) → r ≡ not (list_any test ks) → r ≡ true → (ks' : List R) → ks' ≡ (if list_any test ks then ks else ks ++ k ∷ []) →
        AllDiffer once →
        (map f ks' ≡ once ++ g s ∷ []) × (AllDiffer (once ++ g s ∷ []) × (are_among (once ++ g s ∷ []) (map g (take (i + 1) ss)) ≡ true))
    new_text r e h ks' keys d = by (list_any test ks) refl (sym e ∙ h)
      where
        by : (b : Bool) → list_any test ks ≡ b → not b ≡ true →
            (map f ks' ≡ once ++ g s ∷ []) × (AllDiffer (once ++ g s ∷ []) × (are_among (once ++ g s ∷ []) (map g (take (i + 1) ss)) ≡ true))
        by false a n = (
          ap (map f) (keys ∙ ap (λ b. if b then ks else ks ++ k ∷ []) a) ∙ map-append f ks (k ∷ []) ∙ ap (λ xs. xs ++ f k ∷ []) is
              ∙ ap (λ x. once ++ x ∷ []) read,
          (differ_more once (g s) d (among false a), one_more (once ++ g s ∷ []) (among_more once (map g (take i ss)) (g s) so_far) (here once (g s))),
        )
        by true a n = absurd (true≢false (sym n))

pub among_as : (ts us xs : Texts) → ts ≡ us → are_among us xs ≡ true → are_among ts xs ≡ true
among_as ts us xs e h = ap (λ (ws : Texts). are_among ws xs) e ∙ h
