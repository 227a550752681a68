-- Lists that are walked from the front.
use Rattle.std.proofs.Common.{◌≡◌, ℕ, zero, suc, ◌+◌, ◌<◌, ◌≤◌, List, [], ◌∷◌, ◌++◌, length, take, get_or, refl, sym, ◌∙◌, ap, arith}

take_suc : {X : Type 0} (xs : List X) (i : ℕ) (x : X) → i < length xs → x ≡ get_or xs i x → take (suc i) xs ≡ take i xs ++ x ∷ []
take_suc [] i x lt e = absurd (omega (arith, lt))
take_suc {X = X} (y ∷ xs) zero x lt e = ap (λ (z : X). z ∷ []) (sym e)
take_suc {X = X} (y ∷ xs) (suc i) x lt e = ap (λ (zs : List X). y ∷ zs) (take_suc xs i x (omega (arith, lt)) e)

pub take_more : {X : Type 0} (xs : List X) (i : ℕ) (x : X) → i < length xs → x ≡ get_or xs i x → take (i + 1) xs ≡ take i xs ++ x ∷ []
take_more {X = X} xs i x lt e = let s : i + 1 ≡ suc i = omega arith in ap (λ n. take n xs) s ∙ take_suc xs i x lt e

pub take_all : {X : Type 0} (xs : List X) (i : ℕ) → length xs ≤ i → take i xs ≡ xs
take_all [] zero le = refl
take_all [] (suc i) le = refl
take_all (x ∷ xs) zero le = absurd (omega (arith, le))
take_all {X = X} (x ∷ xs) (suc i) le = ap (λ (zs : List X). x ∷ zs) (take_all xs i (omega (arith, le)))
