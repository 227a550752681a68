-- The sets of the sublists of a rising list are the sets of its members that pass a test.
use Rattle.std.proofs.Common.{◌≡◌, Bool, true, false, cond, not, ◌&&◌, ◌||◌, List, [], ◌∷◌, map, refl, ap, ◌∙◌, sym, subst, ◌⊎◌, inl, inr}
use Rattle.std.specs.Prelude.{filter}
use Rattle.std.specs.List.{list_any}
use Rattle.std.specs.Ordering.{is_eq, ordering_reverse}
use Rattle.std.specs.declared.cmp.Ordering.TheVariants.{Less}
use Rattle.std.proofs.lemmas.Bool.{or_cases}
use Rattle.std.proofs.lemmas.List.Folds.{list_any-append}
use Rattle.tla_values.specs.Order.{same_value, value_cmp}
use Rattle.tla_values.specs.Sets.{set_of, elements, member}
use Rattle.tla_values.specs.declared.value.Value.{Value}
use Rattle.tla_values.specs.declared.value.Value.TheVariants as value
use Rattle.tla_values.proofs.Laws.{value_back, value_up}
use Rattle.tla_values.proofs.Members.{elements-set}
use Rattle.tla_values.proofs.Extensional.{same_equal, same_itself, member-set_of, filter-set_of, true_test, Above, Rising}
use Rattle.cell_merge.proofs.Chosen.{set_of-same}
use Rattle.set_rewriter.specs.Subsets.{sublists, all_subsets}
use Rattle.set_rewriter.specs.inner.Steps.{IsSetOfSubsets}

any-map : {X : Type 0} {Y : Type 0} (p : Y → Bool) (f : X → Y) (xs : List X) → list_any p (map f xs) ≡ list_any (λ x. p (f x)) xs
any-map p f [] = refl
any-map p f (x ∷ xs) = ap (λ t. p (f x) || t) (any-map p f xs)

or_left : (p q : Bool) → p ≡ true → (p || q) ≡ true
or_left p q e = ap (λ t. t || q) e

or_right : (p q : Bool) → q ≡ true → (p || q) ≡ true
or_right true q e = refl
or_right false q e = e

-- what passes a test is a sublist
any-sublists : (p : List Value → Bool) (t : Value → Bool) (xs : List Value) → p (filter t xs) ≡ true → list_any p (sublists xs) ≡ true
any-sublists p t [] h = ap (λ b. b || false) h
any-sublists p t (x ∷ xs) h =
    list_any-append p (sublists xs) (map (λ ys. x ∷ ys) (sublists xs))
    ∙ go (t x) (any-sublists p t xs) (λ e. any-map p (λ ys. x ∷ ys) (sublists xs) ∙ any-sublists (λ ys. p (x ∷ ys)) t xs e) h
  where
    go : (b : Bool) → (p (filter t xs) ≡ true → list_any p (sublists xs) ≡ true) → (p (x ∷ filter t xs) ≡ true → list_any p (map (λ ys. x ∷ ys) (sublists xs)) ≡ true)
        → p (cond b (x ∷ filter t xs) (filter t xs)) ≡ true → (list_any p (sublists xs) || list_any p (map (λ ys. x ∷ ys) (sublists xs))) ≡ true
    go true f g e = or_right _ _ (g e)
    go false f g e = or_left _ _ (f e)

-- ---- a sublist of a rising list is what passes a test

above_lower : (u v : Value) (xs : List Value) → value_cmp u v ≡ Less → Above v xs → Above u xs
above_lower u v [] d h = tt
above_lower u v (x ∷ xs) d h = (value_up u v x d h.0, h.1)

rising_rest : (x : Value) (xs : List Value) → Above x xs → Rising xs
rising_rest x [] h = tt
rising_rest x (y ∷ ys) h = h.1

apart : (x v : Value) → value_cmp x v ≡ Less → same_value v x ≡ false
apart x v e = ap is_eq (value_back v x ∙ ap ordering_reverse e)

without : (x : Value) (t : Value → Bool) (xs : List Value) → Above x xs → filter (λ v. t v && not (same_value v x)) xs ≡ filter t xs
without x t [] h = refl
without x t (y ∷ ys) h =
    ap (λ b. cond (t y && not b) (y ∷ filter (λ v. t v && not (same_value v x)) ys) (filter (λ v. t v && not (same_value v x)) ys)) (apart x y h.0)
    ∙ same (t y) (without x t ys (above_lower x y ys h.0 h.1))
  where
    same : {A : List Value} {B : List Value} (b : Bool) → A ≡ B → cond (b && true) (y ∷ A) A ≡ cond b (y ∷ B) B
    same true e = ap (λ (l : List Value). y ∷ l) e
    same false e = e

with : (x : Value) (t : Value → Bool) (xs : List Value) → Above x xs → filter (λ v. t v || same_value v x) xs ≡ filter t xs
with x t [] h = refl
with x t (y ∷ ys) h =
    ap (λ b. cond (t y || b) (y ∷ filter (λ v. t v || same_value v x) ys) (filter (λ v. t v || same_value v x) ys)) (apart x y h.0)
    ∙ same (t y) (with x t ys (above_lower x y ys h.0 h.1))
  where
    same : {A : List Value} {B : List Value} (b : Bool) → A ≡ B → cond (b || false) (y ∷ A) A ≡ cond b (y ∷ B) B
    same true e = ap (λ (l : List Value). y ∷ l) e
    same false e = e

without-first : (x : Value) (t : Value → Bool) (xs : List Value) → Above x xs → filter (λ v. t v && not (same_value v x)) (x ∷ xs) ≡ filter t xs
without-first x t xs h =
    ap (λ b. cond b (x ∷ filter (λ v. t v && not (same_value v x)) xs) (filter (λ v. t v && not (same_value v x)) xs)) (ap (λ s. t x && not s) (same_itself x) ∙ none (t x)) ∙ without x t xs h
  where
    none : (b : Bool) → (b && false) ≡ false
    none true = refl
    none false = refl

with-first : (x : Value) (t : Value → Bool) (xs : List Value) → Above x xs → filter (λ v. t v || same_value v x) (x ∷ xs) ≡ x ∷ filter t xs
with-first x t xs h =
    ap (λ b. cond b (x ∷ filter (λ v. t v || same_value v x) xs) (filter (λ v. t v || same_value v x) xs)) (or_right (t x) (same_value x x) (same_itself x)) ∙ ap (λ (l : List Value). x ∷ l) (with x t xs h)

any-filter : (p : List Value → Bool) (xs : List Value) → Rising xs → list_any p (sublists xs) ≡ true → (t : Value → Bool) × (p (filter t xs) ≡ true)
any-filter p [] h e = (λ v. false, alone (p []) e)
  where
    alone : (b : Bool) → (b || false) ≡ true → b ≡ true
    alone true f = refl
    alone false f = f
any-filter p (x ∷ xs) h e =
    go (or_cases _ _ (sym (list_any-append p (sublists xs) (map (λ ys. x ∷ ys) (sublists xs))) ∙ e)) (any-filter p xs (rising_rest x xs h)) (any-filter (λ ys. p (x ∷ ys)) xs (rising_rest x xs h))
  where
    go : (list_any p (sublists xs) ≡ true) ⊎ (list_any p (map (λ ys. x ∷ ys) (sublists xs)) ≡ true)
        → (list_any p (sublists xs) ≡ true → (t : Value → Bool) × (p (filter t xs) ≡ true)) → (list_any (λ ys. p (x ∷ ys)) (sublists xs) ≡ true → (t : Value → Bool) × (p (x ∷ filter t xs) ≡ true))
        → (t : Value → Bool) × (p (filter t (x ∷ xs)) ≡ true)
    go (inl f) one two = let r = one f in (λ v. r.0 v && not (same_value v x), ap p (without-first x r.0 xs h) ∙ r.1)
    go (inr f) one two = let r = two (sym (any-map p (λ ys. x ∷ ys) (sublists xs)) ∙ f) in (λ v. r.0 v || same_value v x, ap p (with-first x r.0 xs h) ∙ r.1)

-- ---- the set of all subsets

subsets-any : (w : Value) (xs : List Value) → member w (map (λ ys. value.Set ys) (sublists xs)) ≡ list_any (λ ys. same_value w (value.Set ys)) (sublists xs)
subsets-any w xs = any-map (same_value w) (λ ys. value.Set ys) (sublists xs)

subsets-member : (w : Value) (xs : List Value) → member w (elements (all_subsets xs)) ≡ list_any (λ ys. same_value w (value.Set ys)) (sublists xs)
subsets-member w xs =
    let sets : List Value = map (λ ys. value.Set ys) (sublists xs) in
    ap (member w) (elements-set (set_of sets)) ∙ member-set_of w sets ∙ subsets-any w xs

-- the members that pass a test are one
pub test-subset : (w : Value) (t : Value → Bool) (xs : List Value) → w ≡ value.Set (filter t xs) → member w (elements (all_subsets xs)) ≡ true
test-subset w t xs e = subsets-member w xs ∙ any-sublists (λ ys. same_value w (value.Set ys)) t xs (ap (same_value w) (sym e) ∙ same_itself w)

-- and each is that
pub subset-test : (w : Value) (xs : List Value) → Rising xs → member w (elements (all_subsets xs)) ≡ true → (t : Value → Bool) × (w ≡ value.Set (filter t xs))
subset-test w xs h e =
    let r = any-filter (λ ys. same_value w (value.Set ys)) xs h (sym (subsets-member w xs) ∙ e) in (r.0, same_equal w (value.Set (filter r.0 xs)) r.1)

-- a set with just those members
pub subsets-are : (zs xs : List Value) → Rising xs → IsSetOfSubsets (value.Set (set_of zs)) xs → value.Set (set_of zs) ≡ all_subsets xs
subsets-are zs xs h s =
    let sets : List Value = map (λ ys. value.Set ys) (sublists xs) in
    let there : (w : Value) → member w zs ≡ member w (elements (value.Set (set_of zs))) = λ w. sym (ap (member w) (elements-set (set_of zs)) ∙ member-set_of w zs) in
    ap (λ (l : List Value). value.Set l) (set_of-same zs sets (λ w. true_test _ _
    (λ e.
    let r = s.each w (sym (there w) ∙ e) in
    subsets-any w xs ∙ any-sublists (λ ys. same_value w (value.Set ys)) r.0 xs (ap (same_value w) (sym r.1) ∙ same_itself w))
    (λ e.
    let r = any-filter (λ ys. same_value w (value.Set ys)) xs h (sym (subsets-any w xs) ∙ e) in
    there w ∙ subst (λ u. member u (elements (value.Set (set_of zs))) ≡ true) (sym (same_equal w (value.Set (filter r.0 xs)) r.1)) (s.all r.0))))

-- ---- some of the items

member-filter : (q : Value → Bool) (w : Value) (xs : List Value) → member w (filter q xs) ≡ (q w && member w xs)
member-filter q w [] = none (q w)
  where
    none : (t : Bool) → false ≡ (t && false)
    none true = refl
    none false = refl
member-filter q w (x ∷ xs) = go (q x) refl (same_value w x) refl (member-filter q w xs)
  where
    go : (t : Bool) → q x ≡ t → (s : Bool) → same_value w x ≡ s → member w (filter q xs) ≡ (q w && member w xs) → member w (cond t (x ∷ filter q xs) (filter q xs)) ≡ (q w && (same_value w x || member w xs))
    go true e true f h =
        let is : q w ≡ true = ap q (same_equal w x f) ∙ e in
        ap (λ t. t || member w (filter q xs)) f ∙ sym (ap (λ t. t && (same_value w x || member w xs)) is ∙ ap (λ t. t || member w xs) f)
    go true e false f h = ap (λ t. t || member w (filter q xs)) f ∙ h ∙ sym (ap (λ t. q w && (t || member w xs)) f)
    go false e true f h =
        let is : q w ≡ false = ap q (same_equal w x f) ∙ e in
        h ∙ ap (λ t. t && member w xs) is ∙ sym (ap (λ t. t && (same_value w x || member w xs)) is)
    go false e false f h = h ∙ sym (ap (λ t. q w && (t || member w xs)) f)

-- some of the items are those that pass the test of being among them
pub some-filter : (some items : List Value) → ((w : Value) → member w some ≡ true → member w items ≡ true) → set_of some ≡ filter (λ u. member u some) (set_of items)
some-filter some items h =
    set_of-same some (filter (λ u. member u some) items) (λ w. sym (member-filter (λ u. member u some) w items ∙ kept w (member w some) refl)) ∙ filter-set_of (λ u. member u some) items
  where
    kept : (w : Value) (t : Bool) → member w some ≡ t → (member w some && member w items) ≡ member w some
    kept w true e = ap (λ t. t && member w items) e ∙ h w e ∙ sym e
    kept w false e = ap (λ t. t && member w items) e ∙ sym e
