-- Shapes of names that are of the types of these names.
use Rattle.std.specs.Prelude.{ℕ, ◌≡◌, not, is_some, List, [], ◌∷◌, Option, Some, None, slice_get, option_and_then, if◌then◌else◌}
use Rattle.kernel_trees.specs.Paths.{Marks}
use Rattle.kernel_trees.specs.Sound.{Context}
use Rattle.kernel_trees.specs.Trees.{number_name}
use Rattle.kernel_trees.specs.TypeKinds.{Kind}
use Rattle.kernel_shapes.specs.Shape.{Shape}
use Rattle.kernel_shapes.specs.Sized.{Extent}
use Rattle.kernel_shapes.specs.TypedStates.{OfKind}

-- a name that has no shape is of any type
abbrev pub NamesOfKinds : List Kind → List (Option Shape) → Type 0
NamesOfKinds [] [] = Unit {0}
NamesOfKinds (k ∷ ks) (None ∷ os) = NamesOfKinds ks os
NamesOfKinds (k ∷ ks) (Some a ∷ os) = OfKind k a × NamesOfKinds ks os
NamesOfKinds [] (o ∷ os) = ⊥
NamesOfKinds (k ∷ ks) [] = ⊥

-- the same bound numbers in order
abbrev pub BoundOfKinds : Context → List (List ℕ × Shape) → Type 0
BoundOfKinds [] [] = Unit {0}
BoundOfKinds (e ∷ c) (b ∷ bs) = (number_name e.0 ≡ b.0) × OfKind e.1 b.1 × BoundOfKinds c bs
BoundOfKinds [] (b ∷ bs) = ⊥
BoundOfKinds (e ∷ c) [] = ⊥

pub record OfTypes (names : List Kind) (c : Context) (g : Extent) : Type 0 where
  pub now : NamesOfKinds names g.now
  pub next : NamesOfKinds names g.next
  pub bound : BoundOfKinds c g.bound

-- the names that have no shape yet
abbrev pub without_shape : Extent → Marks
without_shape g i primed =
    not (is_some (option_and_then (λ o. o) (slice_get (if primed then g.next else g.now) i)))
