-- Places in a list, and one item more at its end.
use Rattle.std.proofs.Common.{◌≡◌, ◌⊎◌, inl, inr, ℕ, zero, suc, ◌<◌, ◌≤◌, List, [], ◌∷◌, ◌++◌, map, take, length}
use Rattle.std.proofs.Common.{reverse, Some, refl, ◌∙◌, ap, arith}
use Rattle.std.specs.Prelude.{slice_get}
use Rattle.std.proofs.lemmas.List.{reverse-append}
use Rattle.tla_meaning.proofs.Laws.{none≢some}

some_same : {X : Type 0} {x y : X} → Some x ≡ Some y → x ≡ y
some_same e = cc

-- what stands at a place, and all that stands before it
pub take_more : {X : Type 0} (xs : List X) (n : ℕ) (x : X) → slice_get xs n ≡ Some x →
    take (suc n) xs ≡ take n xs ++ x ∷ []
take_more [] n x e = absurd (none≢some e)
take_more {X = X} (y ∷ ys) zero x e = ap (λ (z : X). z ∷ []) (some_same e)
take_more {X = X} (y ∷ ys) (suc n) x e = ap (λ (zs : List X). y ∷ zs) (take_more ys n x e)

-- one more does not change what stands in front
pub take_front : {X : Type 0} (xs : List X) (y : X) (n : ℕ) → n ≤ length xs → take n (xs ++ y ∷ []) ≡ take n xs
take_front xs y zero le = refl
take_front [] y (suc n) le = absurd (none n le)
  where
    none : (n : ℕ) → suc n ≤ 0 → ⊥
    none n l = omega (arith, l)
take_front {X = X} (x ∷ xs) y (suc n) le = ap (λ (zs : List X). x ∷ zs) (take_front xs y n (less n (length xs) le))
  where
    less : (n m : ℕ) → suc n ≤ suc m → n ≤ m
    less n m l = omega (arith, l)

-- a place in the longer list is one in the shorter, or the last
pub place_of : {X : Type 0} (xs : List X) (y : X) (n : ℕ) (x : X) → slice_get (xs ++ y ∷ []) n ≡ Some x →
    ((n < length xs) × (slice_get xs n ≡ Some x)) ⊎ ((n ≡ length xs) × (y ≡ x))
place_of [] y zero x e = inr (refl, some_same e)
place_of [] y (suc n) x e = absurd (none≢some e)
place_of (z ∷ zs) y zero x e = inl (first (length zs), e)
  where
    first : (m : ℕ) → 0 < suc m
    first m = omega arith
place_of {X = X} (z ∷ zs) y (suc n) x e = by (place_of zs y n x e)
  where
    more : (n m : ℕ) → n < m → suc n < suc m
    more n m l = omega (arith, l)

    by : ((n < length zs) × (slice_get zs n ≡ Some x)) ⊎ ((n ≡ length zs) × (y ≡ x)) →
        ((suc n < length (z ∷ zs)) × (slice_get (z ∷ zs) (suc n) ≡ Some x)) ⊎ ((suc n ≡ length (z ∷ zs)) × (y ≡ x))
    by (inl h) = inl (more n (length zs) h.0, h.1)
    by (inr h) = inr (ap suc h.0, h.1)

-- something stands at each place before one at which something stands
pub one_before : {X : Type 0} (xs : List X) (n : ℕ) (x : X) → slice_get xs (suc n) ≡ Some x →
    (y : X) × (slice_get xs n ≡ Some y)
one_before [] n x e = absurd (none≢some e)
one_before (y ∷ ys) zero x e = (y, refl)
one_before (y ∷ ys) (suc n) x e = one_before ys n x e

-- the newest first: one more at the end is one more in front
pub reverse_last : {X Y : Type 0} (f : X → Y) (xs : List X) (x : X) →
    reverse (map f (xs ++ x ∷ [])) ≡ f x ∷ reverse (map f xs)
reverse_last {X = X} {Y = Y} f xs x = ap reverse (map_last xs) ∙ reverse-append (map f xs) (f x ∷ [])
  where
    map_last : (xs : List X) → map f (xs ++ x ∷ []) ≡ map f xs ++ f x ∷ []
    map_last [] = refl
    map_last (z ∷ zs) = ap (λ (ys : List Y). f z ∷ ys) (map_last zs)
