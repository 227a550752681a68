-- Lists that grow at their ends.
use Rattle.std.proofs.Common.{◌≡◌, ℕ, zero, suc, ◌<◌, ◌≤◌, List, [], ◌∷◌, ◌++◌, map, take, length, get_or, refl, ap, arith}

pub nothing_more : {X : Type 0} → (xs : List X) → xs ++ [] ≡ xs
nothing_more [] = refl
nothing_more {X = X} (x ∷ xs) = ap (λ (ys : List X). x ∷ ys) (nothing_more xs)

pub grouped : {X : Type 0} → (xs ys zs : List X) → xs ++ (ys ++ zs) ≡ (xs ++ ys) ++ zs
grouped [] ys zs = refl
grouped {X = X} (x ∷ xs) ys zs = ap (λ (us : List X). x ∷ us) (grouped xs ys zs)

pub all_taken : {X : Type 0} → (xs : List X) (n : ℕ) → length xs ≤ n → take n xs ≡ xs
all_taken [] zero h = refl
all_taken [] (suc n) h = refl
all_taken (x ∷ xs) zero h = absurd (omega (arith, h))
all_taken {X = X} (x ∷ xs) (suc n) h = ap (λ (ys : List X). x ∷ ys) (all_taken xs n (omega (arith, h)))

module _ {X : Type 0} {Y : Type 0} (f : X → Y) where
  pub mapped_end : (xs : List X) (x : X) → map f (xs ++ x ∷ []) ≡ map f xs ++ f x ∷ []
  mapped_end [] x = refl
  mapped_end (y ∷ xs) x = ap (λ (ys : List Y). f y ∷ ys) (mapped_end xs x)

  -- one item more from the front
  pub mapped_next : (xs : List X) (n : ℕ) (x : X) → n < length xs → x ≡ get_or xs n x → map f (take n xs) ++ f x ∷ [] ≡ map f (take (suc n) xs)
  mapped_next [] n x h e = absurd (omega (arith, h))
  mapped_next (y ∷ xs) zero x h e = ap (λ (u : X). f u ∷ []) e
  mapped_next (y ∷ xs) (suc n) x h e = ap (λ (ys : List Y). f y ∷ ys) (mapped_next xs n x (omega (arith, h)) e)
