-- Extents as the code has them, whose shapes have their numbers of members kept. Source: Konnov, Kukovec and Tran,
-- "TLA+ Model Checking Made Symbolic", OOPSLA 2019, on the static bounds of cells and arenas.
use Rattle.std.specs.Prelude.{ℕ, List, map, Option, Some, None, option_map}
use Rattle.kernel_shapes.specs.declared.bounds.Shape.{Shape as Code}
use Rattle.kernel_shapes.specs.Codes.{mean}
use Rattle.kernel_shapes.specs.Levels.{Assigns, in_next, in_state}
use Rattle.kernel_shapes.specs.Shape.{Shape, Empty}
use Rattle.kernel_shapes.specs.Sized.{Extent}
use Rattle.shape_bounds.specs.declared.paths.Target.{Target}
use Rattle.shape_bounds.specs.declared.paths.Target.TheVariants as target
use Rattle.shape_bounds.specs.Kept.{capped}
use Rattle.shape_bounds.specs.Sizes.{bound_name, kept_name}

-- an extent whose numbers of members are kept
abbrev pub kept_extent : Extent → Extent
kept_extent g = record {
  now = map (option_map capped) g.now;
  next = map (option_map capped) g.next;
  bound = map kept_name g.bound;
}

-- the shape of a name; Empty, which no value fits, stands for none
abbrev pub given_shape : Shape → Option Shape
given_shape Empty = None
given_shape a = Some a

abbrev pub given_shapes : List Code → List (Option Shape)
given_shapes as' = map given_shape (map mean as')

-- the declared names have these shapes in a state and in the next one, and bound numbers those, the last of a number
-- counting
abbrev pub extent_of : List Code → List Code → List (ℕ × Code) → Extent
extent_of now next bound = record {
  now = given_shapes now;
  next = given_shapes next;
  bound = map bound_name bound;
}

-- where a path assigns
abbrev pub assigns_in : Target → Assigns
assigns_in target.Next = in_next
assigns_in target.State = in_state
