-- A walk along the steps of a path.
use Rattle.std.specs.Prelude.{ℕ, ◌≡◌, List, [], ◌∷◌, map}
use Rattle.kernel_trees.specs.declared.kernel.Ker.{Ker}
use Rattle.kernel_trees.specs.declared.path.AssignedStep.{AssignedStep}
use Rattle.kernel_trees.specs.Trees.{number_name}
use Rattle.kernel_shapes.specs.declared.bounds.Shape.{Shape as Code}
use Rattle.kernel_shapes.specs.Kernel.{ker_shape}
use Rattle.kernel_shapes.specs.Levels.{Assigns}
use Rattle.kernel_shapes.specs.Shape.{Shape, inside}
use Rattle.kernel_shapes.specs.Sized.{Extent}
use Rattle.tree_bounds.specs.Bounded.{with_bounds}
use Rattle.shape_bounds.specs.declared.paths.Target.{Target}
use Rattle.shape_bounds.specs.Extents.{assigns_in, extent_of, kept_extent}
use Rattle.shape_bounds.specs.Kept.{capped}
use Rattle.shape_bounds.specs.Sizes.{bound_name, kept_name}
use Rattle.path_bounds.specs.declared.walk.Walk.{Walk}
use Rattle.path_bounds.specs.BoundedPaths.{assign_shape, bounded_steps, past}

-- the names have these shapes where the walk stands, up to numbers past the greatest that is kept
abbrev pub IsAt : Walk → Extent → Type 0
IsAt k g = kept_extent g ≡ extent_of k.state k.next k.bound

-- a walk at its start
pub record IsStart (k : Walk) (w : ℕ) (t : Target) (now next : List Code) : Type 0 where
  pub width : k.width ≡ w
  pub target : k.target ≡ t
  pub state : k.state ≡ now
  pub after : k.next ≡ next
  pub bound : k.bound ≡ []

-- it goes on: the names have the shapes behind what is passed
pub record GoesOn (old new : Walk) (after : Extent → Extent) : Type 0 where
  pub width : new.width ≡ old.width
  pub target : new.target ≡ old.target
  pub at : (g : Extent) → IsAt old g → IsAt new (after g)

-- a declared name is given a shape
pub record IsAssigned (old new : Walk) (i : ℕ) (a : Shape) : Type 0 where
  pub width : new.width ≡ old.width
  pub target : new.target ≡ old.target
  pub at : (g : Extent) (b : Shape) → IsAt old g → capped b ≡ a → IsAt new (assign_shape (assigns_in old.target) i b g)

-- a set of a pick, with the bounds of its ranges
abbrev pub with_set : ℕ → Extent → ℕ × Ker → ℕ × Ker
with_set w g p = (p.0, with_bounds w p.1 (g ∷ []))

-- a picked number, with the shape of the members of its set
abbrev pub member_of : ℕ → Extent → ℕ × Ker → List ℕ × Shape
member_of w g p = (number_name p.0, inside (ker_shape w p.1 g))

abbrev pub AreMembers : Walk → List (ℕ × Ker) → List (ℕ × Code) → Type 0
AreMembers k ps rs =
    (g : Extent) → IsAt k g → map bound_name rs ≡ map kept_name (map (member_of k.width g) ps)

-- ---- steps

abbrev pub past_all : ℕ → Assigns → List AssignedStep → Extent → Extent
past_all w a [] g = g
past_all w a (z ∷ zs) g = past_all w a zs (past w a z g)

-- these steps are passed, and have got their bounds
pub record ArePassed (old new : Walk) (zs rs : List AssignedStep) : Type 0 where
  pub walk : GoesOn old new (past_all old.width (assigns_in old.target) zs)
  pub steps : (g : Extent) → IsAt old g → rs ≡ bounded_steps old.width (assigns_in old.target) zs g
