-- Two sets with the same members are equal.
use Rattle.std.proofs.Common.{◌≡◌, Bool, true, false, ◌&&◌, ◌||◌, List, [], ◌∷◌, ◌++◌, cond, refl, ap, subst, ◌∙◌, sym}
use Rattle.std.specs.Prelude.{filter}
use Rattle.std.proofs.lemmas.List.Folds.{list_any-append}
use Rattle.std.specs.declared.cmp.Ordering.{Ordering}
use Rattle.std.specs.declared.cmp.Ordering.TheVariants.{Less, Equal, Greater}
use Rattle.std.specs.Ordering.{is_eq, is_lt, ordering_reverse}
use Rattle.tla_values.specs.Order.{value_cmp, same_value}
use Rattle.tla_values.specs.Sets.{by_order, insert, set_of, member, subset, elements, union_of}
use Rattle.tla_values.specs.declared.value.Value.{Value, Set}
use Rattle.tla_values.proofs.Members.{elements-set, list_any-insert, list_any-set_of}
use Rattle.tla_values.proofs.TotalLemmas.{value_equal}
use Rattle.tla_values.proofs.Laws.{value_back, value_up, value_itself}

lt_less : (o : Ordering) → is_lt o ≡ true → o ≡ Less
lt_less Less e = refl
lt_less Equal e = absurd (cc)
lt_less Greater e = absurd (cc)

eq_equal : (o : Ordering) → is_eq o ≡ true → o ≡ Equal
eq_equal Less e = absurd (cc)
eq_equal Equal e = refl
eq_equal Greater e = absurd (cc)

pub same_equal : (a b : Value) → same_value a b ≡ true → a ≡ b
same_equal a b e = value_equal a b (eq_equal (value_cmp a b) e)

pub same_itself : (a : Value) → same_value a a ≡ true
same_itself a = ap is_eq (value_itself a)

-- each item is above the value, and the list increases
abbrev pub Above : Value → List Value → Type 0
Above v [] = Unit {0}
Above v (x ∷ xs) = (value_cmp v x ≡ Less) × Above x xs

abbrev pub Rising : List Value → Type 0
Rising [] = Unit {0}
Rising (x ∷ xs) = Above x xs

greater_flip : (a b : Value) → value_cmp a b ≡ Greater → value_cmp b a ≡ Less
greater_flip a b e = value_back b a ∙ ap ordering_reverse e

insert_above : (u v : Value) (xs : List Value) → value_cmp u v ≡ Less → Above u xs → Above u (insert v xs)
insert_above u v [] d h = (d, tt)
insert_above u v (x ∷ xs) d h = go (value_cmp v x) refl (λ e. insert_above x v xs e h.1)
  where
    go : (o : Ordering) → value_cmp v x ≡ o → (value_cmp x v ≡ Less → Above x (insert v xs)) → Above u (by_order o (v ∷ x ∷ xs) (x ∷ xs) (x ∷ insert v xs))
    go Less e k = (d, (e, h.1))
    go Equal e k = h
    go Greater e k = (h.0, k (greater_flip v x e))

insert_rising : (v : Value) (xs : List Value) → Rising xs → Rising (insert v xs)
insert_rising v [] h = tt
insert_rising v (x ∷ xs) h = go (value_cmp v x) refl
  where
    go : (o : Ordering) → value_cmp v x ≡ o → Rising (by_order o (v ∷ x ∷ xs) (x ∷ xs) (x ∷ insert v xs))
    go Less e = (e, h)
    go Equal e = h
    go Greater e = insert_above x v xs (greater_flip v x e) h

pub set_of_rising : (xs : List Value) → Rising (set_of xs)
set_of_rising [] = tt
set_of_rising (x ∷ xs) = insert_rising x (set_of xs) (set_of_rising xs)

above_lower : (u v : Value) (xs : List Value) → value_cmp u v ≡ Less → Above v xs → Above u xs
above_lower u v [] d h = tt
above_lower u v (x ∷ xs) d h = (value_up u v x d h.0, h.1)

-- what is above is no member
above_none : (u : Value) (xs : List Value) → Above u xs → member u xs ≡ false
above_none u [] h = refl
above_none u (x ∷ xs) h = ap (λ o. is_eq o || member u xs) h.0 ∙ above_none u xs (above_lower u x xs h.0 h.1)

false_true : (b : Bool) → b ≡ false → b ≡ true → ⊥
false_true b e f = cc

first_so : (p q : Bool) → (p && q) ≡ true → p ≡ true
first_so true q e = refl
first_so false q e = e

second_so : (p q : Bool) → (p && q) ≡ true → q ≡ true
second_so true q e = e
second_so false q e = absurd (cc)

skip : (p q : Bool) → p ≡ false → (p || q) ≡ true → q ≡ true
skip true q e f = absurd (cc)
skip false q e f = f

rising : (x : Value) (xs : List Value) → Above x xs → Rising xs
rising x [] h = tt
rising x (y ∷ ys) h = h.1

-- a subset of a set whose first item is below all
all_above : (y : Value) (xs ys : List Value) → Above y xs → subset xs (y ∷ ys) ≡ true → subset xs ys ≡ true
all_above y [] ys h e = refl
all_above y (x ∷ xs) ys h e =
    let apart : same_value x y ≡ false = ap is_eq (value_back x y ∙ ap ordering_reverse h.0) in
    let here : member x ys ≡ true = skip (same_value x y) (member x ys) apart (first_so _ _ e) in
    let rest : subset xs ys ≡ true = all_above y xs ys (above_lower y x xs h.0 h.1) (second_so _ _ e) in
    ap (λ b. b && subset xs ys) here ∙ rest

pub same_members : (xs ys : List Value) → Rising xs → Rising ys → subset xs ys ≡ true → subset ys xs ≡ true → xs ≡ ys
same_members [] [] r s d e = refl
same_members [] (y ∷ ys) r s d e = absurd (cc)
same_members (x ∷ xs) [] r s d e = absurd (cc)
same_members (x ∷ xs) (y ∷ ys) r s d e = go (value_cmp x y) refl (same_members xs ys)
  where
    go : (o : Ordering) → value_cmp x y ≡ o → (Rising xs → Rising ys → subset xs ys ≡ true → subset ys xs ≡ true → xs ≡ ys) → (x ∷ xs) ≡ (y ∷ ys)
    go Less f k =
        let gone : member x (y ∷ ys) ≡ false = above_none x (y ∷ ys) (f, s) in
        absurd (false_true _ gone (first_so _ _ d))
    go Equal f k =
        let same : x ≡ y = value_equal x y f in
        let below : Above y xs = subst (λ v. Above v xs) same r in
        let over : Above x ys = subst (λ v. Above v ys) (sym same) s in
        let tails : xs ≡ ys = k (rising x xs r) (rising y ys s) (all_above y xs ys below (second_so _ _ d)) (all_above x ys xs over (second_so _ _ e)) in
        ap (λ v. v ∷ xs) same ∙ ap (λ l. y ∷ l) tails
    go Greater f k =
        let gone : member y (x ∷ xs) ≡ false = above_none y (x ∷ xs) (greater_flip x y f, r) in
        absurd (false_true _ gone (first_so _ _ e))

pub members_of : (zs : List Value) (xs : List Value) → ((v : Value) → member v xs ≡ true → member v zs ≡ true) → subset xs zs ≡ true
members_of zs [] h = refl
members_of zs (x ∷ xs) h =
    let here : member x zs ≡ true = h x (ap (λ b. b || member x xs) (same_itself x)) in
    ap (λ b. b && subset xs zs) here ∙ members_of zs xs (λ v e. h v (later (same_value v x) (member v xs) e))
  where
    later : (p q : Bool) → q ≡ true → (p || q) ≡ true
    later true q e = refl
    later false q e = e

pub subset_itself : (xs : List Value) → subset xs xs ≡ true
subset_itself xs = members_of xs xs (λ v e. e)

pub true_test : (b c : Bool) → (b ≡ true → c ≡ true) → (c ≡ true → b ≡ true) → b ≡ c
true_test true c f g = sym (f refl)
true_test false true f g = g refl
true_test false false f g = refl

-- two sets are equal where each is within the other
pub same_value-sets : (xs ys : List Value) → same_value (Set (set_of xs)) (Set (set_of ys)) ≡ (subset (set_of xs) (set_of ys) && subset (set_of ys) (set_of xs))
same_value-sets xs ys =
    let s : List Value = set_of xs in
    let t : List Value = set_of ys in
    true_test _ _
    (λ e.
    let h : Set s ≡ Set t = same_equal (Set s) (Set t) e in
    let l : s ≡ t = sym (elements-set s) ∙ ap elements h ∙ elements-set t in
    subst (λ w. (subset s w && subset w s) ≡ true) l (ap (λ b. b && subset s s) (subset_itself s) ∙ subset_itself s))
    (λ e. subst (λ w. same_value (Set s) (Set w) ≡ true) (same_members s t (set_of_rising xs) (set_of_rising ys) (first_so _ _ e) (second_so _ _ e)) (same_itself (Set s)))

-- ---- sets by their members

same_lists : (xs ys : List Value) → Rising xs → Rising ys → ((v : Value) → member v xs ≡ member v ys) → xs ≡ ys
same_lists xs ys r s h =
    same_members xs ys r s (members_of ys xs (λ v e. sym (h v) ∙ e)) (members_of xs ys (λ v e. h v ∙ e))

pub member-set_of : (v : Value) (xs : List Value) → member v (set_of xs) ≡ member v xs
member-set_of v xs = list_any-set_of (same_value v) xs

above_filter : (p : Value → Bool) (u : Value) (xs : List Value) → Above u xs → Above u (filter p xs)
above_filter p u [] h = tt
above_filter p u (x ∷ xs) h = go (p x) (above_filter p x xs h.1) (above_filter p u xs (above_lower u x xs h.0 h.1))
  where
    go : (b : Bool) → Above x (filter p xs) → Above u (filter p xs) → Above u (cond b (x ∷ filter p xs) (filter p xs))
    go true k l = (h.0, k)
    go false k l = l

rising_filter : (p : Value → Bool) (xs : List Value) → Rising xs → Rising (filter p xs)
rising_filter p [] h = tt
rising_filter p (x ∷ xs) h = go (p x) (above_filter p x xs h) (rising_filter p xs (rising x xs h))
  where
    go : (b : Bool) → Above x (filter p xs) → Rising (filter p xs) → Rising (cond b (x ∷ filter p xs) (filter p xs))
    go true k l = k
    go false k l = l

member-filter : (p : Value → Bool) (v : Value) (xs : List Value) → member v (filter p xs) ≡ (p v && member v xs)
member-filter p v [] = none (p v)
  where
    none : (b : Bool) → false ≡ (b && false)
    none true = refl
    none false = refl
member-filter p v (x ∷ xs) = go (p x) refl (same_value v x) refl (member-filter p v xs)
  where
    go : (b : Bool) → p x ≡ b → (s : Bool) → same_value v x ≡ s → member v (filter p xs) ≡ (p v && member v xs) → member v (cond b (x ∷ filter p xs) (filter p xs)) ≡ (p v && (same_value v x || member v xs))
    go true e true f h =
        let is : p v ≡ true = ap p (same_equal v x f) ∙ e in
        ap (λ t. t || member v (filter p xs)) f ∙ sym (ap (λ t. t && (same_value v x || member v xs)) is ∙ ap (λ t. t || member v xs) f)
    go true e false f h = ap (λ t. t || member v (filter p xs)) f ∙ h ∙ sym (ap (λ t. p v && (t || member v xs)) f)
    go false e true f h =
        let is : p v ≡ false = ap p (same_equal v x f) ∙ e in
        h ∙ ap (λ t. t && member v xs) is ∙ sym (ap (λ t. t && (same_value v x || member v xs)) is)
    go false e false f h = h ∙ sym (ap (λ t. p v && (t || member v xs)) f)

pub filter-set_of : (p : Value → Bool) (xs : List Value) → set_of (filter p xs) ≡ filter p (set_of xs)
filter-set_of p xs =
    same_lists (set_of (filter p xs)) (filter p (set_of xs)) (set_of_rising (filter p xs)) (rising_filter p (set_of xs) (set_of_rising xs))
    (λ v. member-set_of v (filter p xs) ∙ member-filter p v xs ∙ sym (member-filter p v (set_of xs) ∙ ap (λ t. p v && t) (member-set_of v xs)))

rising_union : (xs ys : List Value) → Rising ys → Rising (union_of xs ys)
rising_union [] ys h = h
rising_union (x ∷ xs) ys h = insert_rising x (union_of xs ys) (rising_union xs ys h)

member-union : (v : Value) (xs ys : List Value) → member v (union_of xs ys) ≡ (member v xs || member v ys)
member-union v [] ys = refl
member-union v (x ∷ xs) ys = list_any-insert (same_value v) x (union_of xs ys) ∙ ap (λ t. same_value v x || t) (member-union v xs ys) ∙ grouped (same_value v x) (member v xs) (member v ys)
  where
    grouped : (p q r : Bool) → (p || (q || r)) ≡ ((p || q) || r)
    grouped true q r = refl
    grouped false q r = refl

pub union-set_of : (xs ys : List Value) → set_of (xs ++ ys) ≡ union_of (set_of xs) (set_of ys)
union-set_of xs ys =
    same_lists (set_of (xs ++ ys)) (union_of (set_of xs) (set_of ys)) (set_of_rising (xs ++ ys)) (rising_union (set_of xs) (set_of ys) (set_of_rising ys))
    (λ v. member-set_of v (xs ++ ys) ∙ list_any-append (same_value v) xs ys
    ∙ sym (member-union v (set_of xs) (set_of ys) ∙ ap (λ t. t || member v (set_of ys)) (member-set_of v xs) ∙ ap (λ t. member v xs || t) (member-set_of v ys)))
