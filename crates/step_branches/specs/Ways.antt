-- From where the paths of an action are taken. Source: Konnov, Kukovec and Tran, "TLA+ Model Checking Made Symbolic",
-- OOPSLA
-- 2019, on assignments and symbolic transitions.
use Rattle.std.specs.Prelude.{◌≡◌, ℕ, Bool, true, false, List, [], ◌∷◌, map, take, Option, Some, None}
use Rattle.cell_arena.specs.declared.kinds.CellId.{CellId}
use Rattle.kernel_shapes.specs.declared.bounds.Shape.{Shape as Code}
use Rattle.kernel_shapes.specs.declared.bounds.Shape.TheVariants as code
use Rattle.kernel_trees.specs.declared.system.System.{System}
use Rattle.shape_bounds.specs.declared.paths.Target.{Target}
use Rattle.shape_bounds.specs.declared.paths.Target.TheVariants.{Next, State}
use Rattle.step_laws.specs.Encodable.{constant_count}
use Rattle.branch_cells.specs.declared.way.Way.{Way}

-- of each name that is fixed what it has, and nothing of the others
abbrev pub of_constants : {X : Type 0} → List Bool → List X → List (Option X)
of_constants [] xs = []
of_constants (b ∷ bs) [] = []
of_constants (true ∷ bs) (x ∷ xs) = Some x ∷ of_constants bs xs
of_constants (false ∷ bs) (x ∷ xs) = None ∷ of_constants bs xs

-- the shapes of the names that are fixed, and Empty, which stands for none, for the others
abbrev pub shapes_of_constants : List Bool → List Code → List Code
shapes_of_constants [] as' = []
shapes_of_constants (b ∷ bs) [] = []
shapes_of_constants (true ∷ bs) (a ∷ as') = a ∷ shapes_of_constants bs as'
shapes_of_constants (false ∷ bs) (a ∷ as') = code.Empty ∷ shapes_of_constants bs as'

-- what the ways have in common: nothing is bound, and each name has a cell where a path leaves it out
pub record IsWay (bits : ℕ) (assigned : Target) (cells : List CellId) (way : Way) : Type 0 where
  pub bound : way.env.bound ≡ []
  pub target : way.target ≡ assigned
  pub width : way.width ≡ bits
  pub others : way.others ≡ cells

-- in Next each name has its cell in the state, the constants in the next one too, and the shapes are those of the level
pub record IsStepWay (s : System) (width : ℕ) (cells : List CellId) (shapes : List Code) (way : Way) : Type 0 where
  pub is : IsWay width Next cells way
  pub current : way.env.now ≡ cells
  pub following : way.env.next ≡ of_constants s.ker.fixed cells
  pub shapes_now : way.now ≡ shapes
  pub shapes_next : way.next ≡ shapes_of_constants s.ker.fixed shapes

-- in Init the constants have theirs, in the state and in the next one, which are the same
pub record IsStartWay (s : System) (width : ℕ) (cells : List CellId) (shapes : List Code) (way : Way) : Type 0 where
  pub is : IsWay width State cells way
  pub current : way.env.now ≡ take (constant_count s) cells
  pub following : way.env.next ≡ of_constants s.ker.fixed cells
  pub shapes_now : way.now ≡ shapes_of_constants s.ker.fixed shapes
  pub shapes_next : way.next ≡ shapes_of_constants s.ker.fixed shapes

-- in CInit no name has any
pub record IsConstantsWay (s : System) (width : ℕ) (cells : List CellId) (way : Way) : Type 0 where
  pub is : IsWay width State cells way
  pub current : way.env.now ≡ []
  pub following : way.env.next ≡ map (λ _. None) s.ker.fixed
  pub shapes_now : way.now ≡ map (λ _. code.Empty) s.ker.fixed
  pub shapes_next : way.next ≡ map (λ _. code.Empty) s.ker.fixed
