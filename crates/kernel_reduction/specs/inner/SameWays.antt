-- Lists and paths that are related item by item and step by step.
use Rattle.std.specs.Prelude.{◌≡◌, List, [], ◌∷◌}
use Rattle.kernel_trees.specs.Ways.{Way}

-- as many items, each related to the other list's in its place
abbrev pub Pairs : {X Y : Type 0} → (X → Y → Type 0) → List X → List Y → Type 0
Pairs R [] [] = Unit {0}
Pairs R [] (y ∷ ys) = ⊥
Pairs R (x ∷ xs) [] = ⊥
Pairs R (x ∷ xs) (y ∷ ys) = R x y × Pairs R xs ys

-- paths that take their last branch at one place, and whose steps are related
pub record SameWay {S T : Type 0} (R : S → T → Type 0) (a : Way S) (b : Way T) : Type 0 where
  pub taken : a.taken ≡ b.taken
  pub steps : Pairs R a.steps b.steps

abbrev pub SameWays : {S T : Type 0} → (S → T → Type 0) → List (Way S) → List (Way T) → Type 0
SameWays R = Pairs (SameWay R)
