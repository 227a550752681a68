-- Parts of a list of trees are no deeper than the list.
use Rattle.std.proofs.Common.{ℕ, zero, suc, ◌≤◌, List, [], ◌∷◌, drop, take, arith}
use Rattle.tla_evaluator.proofs.Words.{most}

pub most-take : {X : Type 0} (f : X → ℕ) (n : ℕ) (xs : List X) → most f (take n xs) ≤ most f xs
most-take f zero xs = omega arith
most-take f (suc n) [] = omega arith
most-take f (suc n) (x ∷ xs) = omega (arith, most-take f n xs)

pub most-drop : {X : Type 0} (f : X → ℕ) (n : ℕ) (xs : List X) → most f (drop n xs) ≤ most f xs
most-drop f zero xs = omega arith
most-drop f (suc n) [] = omega arith
most-drop f (suc n) (x ∷ xs) = omega (arith, most-drop f n xs)
