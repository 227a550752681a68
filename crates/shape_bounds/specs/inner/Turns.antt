-- What is found over paths, and at a level.
use Rattle.std.specs.Prelude.{◌≡◌, List, [], map, Option, option_map}
use Rattle.kernel_shapes.specs.Codes.{mean}
use Rattle.kernel_shapes.specs.Counts.{Count, either_rank, first_rank}
use Rattle.kernel_shapes.specs.Shape.{Shape}
use Rattle.kernel_shapes.specs.Sized.{Extent}
use Rattle.shape_bounds.specs.declared.levels.Level.{Level}
use Rattle.shape_bounds.specs.declared.limits.Excess.{Excess}
use Rattle.shape_bounds.specs.declared.names.Names.{Names}
use Rattle.shape_bounds.specs.Excesses.{rank_of}
use Rattle.shape_bounds.specs.inner.Walks.{some_shapes}
use Rattle.shape_bounds.specs.Kept.{capped}
use Rattle.shape_bounds.specs.Sizes.{Reads}

-- declared names have the same shapes, with what was first by then; no number has one
pub record IsAgain (old new : Names) (before : Option Excess) : Type 0 where
  pub width : new.width ≡ old.width
  pub state : some_shapes new.state.items ≡ some_shapes old.state.items
  pub next : some_shapes new.next.items ≡ some_shapes old.next.items
  pub bound : new.bound.items ≡ []
  pub first : new.first ≡ before

-- shapes and numbers that go by the names
pub record IsLevel (s : Names) (after : Extent → List Shape) (cs : Extent → List Count) (r : Level) : Type 0 where
  pub shapes : (g : Extent) → Reads s g → map capped (after g) ≡ map mean r.shapes
  pub finds : (g : Extent) → Reads s g → option_map rank_of r.first ≡ either_rank (option_map rank_of s.first) (first_rank (cs g))
