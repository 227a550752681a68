-- Joins of lists of shapes, item by item, as the code makes them.
use Rattle.std.specs.Prelude.{ℕ, zero, suc, ◌≡◌, List, [], ◌∷◌, map}
use Rattle.kernel_shapes.specs.declared.bounds.Shape.{Shape as Code}
use Rattle.kernel_shapes.specs.Codes.{mean}
use Rattle.kernel_shapes.specs.Shape.{Shape, join}

-- each of the first with the one of the others at its place, if there is one
abbrev pub joined_each : List Shape → List Shape → List Shape
joined_each [] bs = []
joined_each (a ∷ as') [] = a ∷ as'
joined_each (a ∷ as') (b ∷ bs) = join a b ∷ joined_each as' bs

-- fields with the names of the first
pub record IsJoined (xs ys zs : List (List ℕ × Code)) : Type 0 where
  pub names : map (λ z. z.0) zs ≡ map (λ x. x.0) xs
  pub shapes : map (λ z. mean z.1) zs ≡ joined_each (map (λ x. mean x.1) xs) (map (λ y. mean y.1) ys)

-- the item at a place is joined with a shape
abbrev pub joined_one : ℕ → Shape → List Shape → List Shape
joined_one n b [] = []
joined_one zero b (a ∷ as') = join a b ∷ as'
joined_one (suc n) b (a ∷ as') = a ∷ joined_one n b as'

-- the field at a place is joined with a shape
pub record IsJoinedAt (n : ℕ) (b : Shape) (xs zs : List (List ℕ × Code)) : Type 0 where
  pub names : map (λ z. z.0) zs ≡ map (λ x. x.0) xs
  pub shapes : map (λ z. mean z.1) zs ≡ joined_one n b (map (λ x. mean x.1) xs)
