-- Variables that are met one after the other are those that occur, each once.
use Rattle.std.proofs.Common.{◌≡◌, ◌+◌, ◌<◌, arith, ℕ, suc, take, get_or, true, false, inl, inr, List, [], ◌∷◌, ◌++◌, length, refl, ap, sym, ◌∙◌}
use Rattle.std.proofs.lemmas.Bool.{cases_Bool, eqb-true, eq-eqb}
use Rattle.std.specs.List.{flat_map}
use Rattle.std.proofs.lemmas.List.{append-nil, take_more}
use Rattle.std.proofs.lemmas.Grind.{flat_map-append}
use Rattle.snowcat_rows.specs.declared.occurrences.Unknown.{Unknown}
use Rattle.snowcat_rows.specs.declared.occurrences.Unknown.TheVariants as unknown
use Rattle.snowcat_rows.specs.Numbered.{same_variable, without, each_once, place}
use Rattle.snowcat_rows.specs.inner.Meeting.{met, all_met}

-- ---- one variable

pub met_new : (v : Unknown) (ws : List Unknown) → place v ws ≡ length ws → met ws v ≡ ws ++ v ∷ []
met_new v [] e = refl
met_new v (w ∷ ws) e = elim (cases_Bool (same_variable w v)) [
  | inl h ↦ absurd (let k : place v (w ∷ ws) ≡ 0 = rw h refl in omega (arith, k, e))
  | inr h ↦ rw h (ap (λ z. w ∷ z) (met_new v ws (let k : place v (w ∷ ws) ≡ suc (place v ws) = rw h refl in omega (arith, k, e))))
]

none_more : (v : Unknown) (ws : List Unknown) → (length ws < place v ws → ⊥)
none_more v [] h = omega (arith, h)
none_more v (w ∷ ws) h = elim (cases_Bool (same_variable w v)) [
  | inl e ↦ let k : place v (w ∷ ws) ≡ 0 = rw e refl in omega (arith, k, h)
  | inr e ↦ none_more v ws (let k : place v (w ∷ ws) ≡ suc (place v ws) = rw e refl in omega (arith, k, h))
]

met_there : (v : Unknown) (ws : List Unknown) → place v ws < length ws → met ws v ≡ ws
met_there v [] e = absurd (omega (arith, e))
met_there v (w ∷ ws) e = elim (cases_Bool (same_variable w v)) [
  | inl h ↦ rw h refl
  | inr h ↦ rw h (ap (λ z. w ∷ z) (met_there v ws (let k : place v (w ∷ ws) ≡ suc (place v ws) = rw h refl in omega (arith, k, e))))
]

pub met_old : (v : Unknown) (ws : List Unknown) → (place v ws ≡ length ws → ⊥) → met ws v ≡ ws
met_old v ws h = met_there v ws (let k = none_more v ws in omega (arith, h, k))

-- ---- several

pub all_met-append : (ks vs ws : List Unknown) → all_met ks (vs ++ ws) ≡ all_met (all_met ks vs) ws
all_met-append ks [] ws = refl
all_met-append ks (v ∷ vs) ws = all_met-append (met ks v) vs ws

pub two_met : (o p q xs ys ws : List Unknown) → p ≡ all_met o xs → q ≡ all_met p ys → ws ≡ xs ++ ys → q ≡ all_met o ws
two_met o p q xs ys ws e f h = f ∙ ap (λ z. all_met z ys) e ∙ sym (all_met-append o xs ys) ∙ ap (all_met o) (sym h)

-- one item of a list more
pub item_met : {X : Type 0} (f : X → List Unknown) (o p q : List Unknown) (xs : List X) (i : ℕ) (d x : X) → i < length xs → x ≡ get_or xs i d →
    p ≡ all_met o (flat_map f (take i xs)) → q ≡ all_met p (f x) → q ≡ all_met o (flat_map f (take (i + 1) xs))
item_met f o p q xs i d x lt is e g =
    two_met o p q (flat_map f (take i xs)) (f x) (flat_map f (take (i + 1) xs)) e g
    (ap (flat_map f) (take_more xs i d lt) ∙ flat_map-append f (take i xs) (get_or xs i d ∷ []) ∙ ap (λ z. flat_map f (take i xs) ++ z) (append-nil (f (get_or xs i d)) ∙ ap f (sym is)))

-- ---- each once

-- those of a list that do not stand in the other
abbrev less : List Unknown → List Unknown → List Unknown
less [] vs = vs
less (k ∷ ks) vs = less ks (without k vs)

less-nil : (ks : List Unknown) → less ks [] ≡ []
less-nil [] = refl
less-nil (k ∷ ks) = less-nil ks

pub same_is : (v w : Unknown) → same_variable v w ≡ true → v ≡ w
same_is (unknown.Type a) (unknown.Type b) h = ap (λ z. unknown.Type z) (eqb-true a b h)
same_is (unknown.Row a) (unknown.Row b) h = ap (λ z. unknown.Row z) (eqb-true a b h)
same_is (unknown.Type a) (unknown.Row b) h = absurd (cc)
same_is (unknown.Row a) (unknown.Type b) h = absurd (cc)

pub same_self : (v : Unknown) → same_variable v v ≡ true
same_self (unknown.Type a) = eq-eqb a a refl
same_self (unknown.Row a) = eq-eqb a a refl

without_hit : (v w : Unknown) (ws : List Unknown) → same_variable v w ≡ true → without v (w ∷ ws) ≡ without v ws
without_hit v w ws h = rw h refl

without_miss : (v w : Unknown) (ws : List Unknown) → same_variable v w ≡ false → without v (w ∷ ws) ≡ w ∷ without v ws
without_miss v w ws h = rw h refl

without_twice : (v : Unknown) (ws : List Unknown) → without v (without v ws) ≡ without v ws
without_twice v [] = refl
without_twice v (w ∷ ws) = elim (cases_Bool (same_variable v w)) [
  | inl h ↦ ap (without v) (without_hit v w ws h) ∙ without_twice v ws ∙ sym (without_hit v w ws h)
  | inr h ↦
      ap (without v) (without_miss v w ws h) ∙ without_miss v w (without v ws) h ∙ ap (λ z. w ∷ z) (without_twice v ws) ∙ sym (without_miss v w ws h)
]

without_swap : (v k : Unknown) (ws : List Unknown) → without k (without v ws) ≡ without v (without k ws)
without_swap v k [] = refl
without_swap v k (w ∷ ws) = elim (cases_Bool (same_variable v w)) [
  | inl h ↦ elim (cases_Bool (same_variable k w)) [
    | inl g ↦ ap (without k) (without_hit v w ws h) ∙ without_swap v k ws ∙ ap (without v) (sym (without_hit k w ws g))
    | inr g ↦
        ap (without k) (without_hit v w ws h) ∙ without_swap v k ws ∙ sym (without_hit v w (without k ws) h)
        ∙ ap (without v) (sym (without_miss k w ws g))
  ]
  | inr h ↦ elim (cases_Bool (same_variable k w)) [
    | inl g ↦
        ap (without k) (without_miss v w ws h) ∙ without_hit k w (without v ws) g ∙ without_swap v k ws ∙ ap (without v) (sym (without_hit k w ws g))
    | inr g ↦
        ap (without k) (without_miss v w ws h) ∙ without_miss k w (without v ws) g ∙ ap (λ z. w ∷ z) (without_swap v k ws)
        ∙ sym (without_miss v w (without k ws) h) ∙ ap (without v) (sym (without_miss k w ws g))
  ]
]

-- one more is met, where others follow
met_then : (ks : List Unknown) (v : Unknown) (xs : List Unknown) → met ks v ++ less (met ks v) xs ≡ ks ++ less ks (v ∷ without v xs)
met_then [] v xs = refl
met_then (k ∷ ks) v xs = elim (cases_Bool (same_variable k v)) [
  | inl h ↦
      let m : met (k ∷ ks) v ≡ k ∷ ks = rw h refl in
      let e : without k (v ∷ without v xs) ≡ without k xs =
      without_hit k v (without v xs) h ∙ ap (λ z. without k (without z xs)) (sym (same_is k v h)) ∙ without_twice k xs in
      ap (λ z. z ++ less z xs) m ∙ ap (λ z. k ∷ (ks ++ less ks z)) (sym e)
  | inr h ↦
      let m : met (k ∷ ks) v ≡ k ∷ met ks v = rw h refl in
      let e : without k (v ∷ without v xs) ≡ v ∷ without v (without k xs) =
      without_miss k v (without v xs) h ∙ ap (λ z. v ∷ z) (without_swap v k xs) in
      ap (λ z. z ++ less z xs) m ∙ ap (λ z. k ∷ z) (met_then ks v (without k xs)) ∙ ap (λ z. k ∷ (ks ++ less ks z)) (sym e)
]

all_met_are : (ks vs : List Unknown) → all_met ks vs ≡ ks ++ less ks (each_once vs)
all_met_are ks [] = sym (ap (λ z. ks ++ z) (less-nil ks) ∙ append-nil ks)
all_met_are ks (v ∷ vs) = all_met_are (met ks v) vs ∙ met_then ks v (each_once vs)

-- who begins with none has each once
pub all_met_once : (vs ws ks ls : List Unknown) → ks ≡ all_met [] vs → ls ≡ all_met ks ws → ls ≡ each_once (vs ++ ws)
all_met_once vs ws ks ls e g =
    g ∙ ap (λ z. all_met z ws) e ∙ sym (all_met-append [] vs ws) ∙ all_met_are [] (vs ++ ws)
