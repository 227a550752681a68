-- Walks along the steps of paths.
use Rattle.std.specs.Prelude.{ℕ, ◌≡◌, List, map, Option, option_map}
use Rattle.kernel_trees.specs.declared.kernel.Ker.{Ker}
use Rattle.kernel_trees.specs.Trees.{number_name}
use Rattle.kernel_shapes.specs.declared.bounds.Shape.{Shape as Code}
use Rattle.kernel_shapes.specs.Codes.{mean}
use Rattle.kernel_shapes.specs.Counts.{Count}
use Rattle.kernel_shapes.specs.Kernel.{ker_sized}
use Rattle.kernel_shapes.specs.Levels.{Assigns, assign, picked_counts, picked_shapes}
use Rattle.kernel_shapes.specs.Shape.{Shape}
use Rattle.kernel_shapes.specs.Sized.{Extent, Sizing}
use Rattle.shape_bounds.specs.declared.names.Names.{Names}
pub use Rattle.shape_bounds.specs.Extents.{assigns_in}
use Rattle.shape_bounds.specs.Kept.{capped}
use Rattle.shape_bounds.specs.Sizes.{Finds, Reads, SameNames}

-- the shapes of names, of which some have none
abbrev pub some_shapes : List (Option Code) → List (Option Shape)
some_shapes os = map (option_map mean) os

-- a declared name is given a shape
pub record IsAssigned (old new : Names) (k : Assigns) (i : ℕ) (a : Shape) : Type 0 where
  pub width : new.width ≡ old.width
  pub first : new.first ≡ old.first
  pub reads : (g : Extent) (b : Shape) → Reads old g → capped b ≡ a → Reads new (assign k i b g)

-- each bound number with its set
abbrev pub sized_sets : ℕ → List (ℕ × Ker) → List (List ℕ × Sizing)
sized_sets w ps = map (λ p. (number_name p.0, ker_sized w p.1)) ps

-- sets of which members are picked are looked at: these are the shapes of their members
pub record SizesPicked (old new : Names) (xs : List (List ℕ × Sizing)) (rs : List Code) : Type 0 where
  pub same : SameNames old new
  pub shapes : (g : Extent) → Reads old g → map capped (picked_shapes xs g) ≡ map mean rs
  pub finds : (g : Extent) → Reads old g → Finds old new (picked_counts xs g)

-- steps are taken: the names have the shapes behind them, and the numbers of the steps are looked at
pub record Walks (old new : Names) (after : Extent → Extent) (cs : Extent → List Count) : Type 0 where
  pub width : new.width ≡ old.width
  pub reads : (g : Extent) → Reads old g → Reads new (after g)
  pub finds : (g : Extent) → Reads old g → Finds old new (cs g)
