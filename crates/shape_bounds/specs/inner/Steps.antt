-- The steps of a fold, as a walk finds them.
use Rattle.std.specs.Prelude.{ℕ, zero, suc, ◌≡◌, List, [], ◌∷◌, map}
use Rattle.kernel_trees.specs.Trees.{names_of}
use Rattle.kernel_shapes.specs.declared.bounds.Shape.{Shape as Code}
use Rattle.kernel_shapes.specs.Codes.{mean}
use Rattle.kernel_shapes.specs.Shape.{Shape, count, inside}
use Rattle.kernel_shapes.specs.Sized.{Extent, Sized, Sizing, bind_shapes}
use Rattle.shape_bounds.specs.declared.names.Names.{Names}
use Rattle.shape_bounds.specs.inner.Nodes.{counts_along}
use Rattle.shape_bounds.specs.Kept.{capped}
use Rattle.shape_bounds.specs.Sizes.{Finds, Reads, SameNames}

-- the values that n steps go through
abbrev pub values_along : (Shape → Sized) → ℕ → Shape → List Shape
values_along f zero a = a ∷ []
values_along f (suc n) a = a ∷ values_along f n (f a).shape

-- the body where the value so far has a shape, over items of another
abbrev pub body_at : Sizing → List ℕ → Shape → Extent → Shape → Sized
body_at z xs b g a = z (bind_shapes (names_of xs) (a ∷ b ∷ []) g)

-- so many steps of a fold are looked at
pub record SizesTurns (old new : Names) (z : Sizing) (xs : List ℕ) (n : ℕ) (start item : Shape) (rs : List Code) : Type 0 where
  pub same : SameNames old new
  pub values : (g : Extent) (a b : Shape) → Reads old g → capped a ≡ start → capped b ≡ item →
      map capped (values_along (body_at z xs b g) n a) ≡ map mean rs
  pub finds : (g : Extent) (a b : Shape) → Reads old g → capped a ≡ start → capped b ≡ item →
      Finds old new (counts_along (body_at z xs b g) n a)

-- the steps of a fold over a list are looked at
pub record SizesSteps (old new : Names) (z : Sizing) (xs : List ℕ) (start list : Shape) (rs : List Code) : Type 0 where
  pub same : SameNames old new
  pub values : (g : Extent) (a b : Shape) → Reads old g → capped a ≡ start → capped b ≡ list →
      map capped (values_along (body_at z xs (inside b) g) (count b) a) ≡ map mean rs
  pub finds : (g : Extent) (a b : Shape) → Reads old g → capped a ≡ start → capped b ≡ list →
      Finds old new (counts_along (body_at z xs (inside b) g) (count b) a)
