-- Elements of lists.
use Rattle.std.proofs.Common.{◌≡◌, ℕ, zero, suc, ◌<◌, List, [], ◌∷◌, ◌++◌, flat_map, length, sym, subst, arith, ◌⊎◌, inl, inr}
use Rattle.std.specs.Prelude.{slice_index_or}
use Rattle.std.specs.List.{AllByRecursion, Contains}
use Rattle.tla_meaning.proofs.NormalShapes.{all_plus}

abbrev pub Among : {X : Type 0} → X → List X → Type 0
Among x [] = ⊥
Among x (y ∷ ys) = (y ≡ x) ⊎ Among x ys

pub among_of : {X : Type 0} (xs : List X) (x : X) → Contains xs x → Among x xs
among_of {X = X} xs x h = at xs h.0 h.1 h.2
  where
    at : (xs : List X) (k : ℕ) → k < length xs → slice_index_or xs k x ≡ x → Among x xs
    at [] k l e = absurd (omega (arith, l))
    at (y ∷ ys) zero l e = inl e
    at (y ∷ ys) (suc k) l e = inr (at ys k (omega (arith, l)) e)

pub all_among : {X : Type 0} (P : X → Type 0) (xs : List X) (x : X) → AllByRecursion P xs → Among x xs → P x
all_among P [] x h k = absurd k
all_among P (y ∷ ys) x h (inl e) = subst P e h.0
all_among P (y ∷ ys) x h (inr k) = all_among P ys x h.1 k

among_left : {X : Type 0} (xs ys : List X) (x : X) → Among x xs → Among x (xs ++ ys)
among_left [] ys x h = absurd h
among_left (y ∷ xs) ys x (inl e) = inl e
among_left (y ∷ xs) ys x (inr h) = inr (among_left xs ys x h)

among_right : {X : Type 0} (xs ys : List X) (x : X) → Among x ys → Among x (xs ++ ys)
among_right [] ys x h = h
among_right (y ∷ xs) ys x h = inr (among_right xs ys x h)

pub among_flat : {X Y : Type 0} (f : X → List Y) (xs : List X) (x : X) (y : Y) → Among x xs → Among y (f x) →
    Among y (flat_map f xs)
among_flat f [] x y h k = absurd h
among_flat f (z ∷ xs) x y (inl e) k = among_left (f z) (flat_map f xs) y (subst (λ u. Among y (f u)) (sym e) k)
among_flat f (z ∷ xs) x y (inr h) k = among_right (f z) (flat_map f xs) y (among_flat f xs x y h k)

pub all_flat : {X Y : Type 0} (Q : Y → Type 0) (f : X → List Y) (xs : List X) →
    AllByRecursion (λ x. AllByRecursion Q (f x)) xs →
    AllByRecursion Q (flat_map f xs)
all_flat Q f [] h = tt
all_flat Q f (x ∷ xs) h = all_plus Q (f x) (flat_map f xs) h.0 (all_flat Q f xs h.1)
