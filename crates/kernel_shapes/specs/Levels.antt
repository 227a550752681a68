-- Shapes of names at levels, the numbers of a level, and the refusal of a system. Source: Konnov, Kukovec and Tran,
-- "TLA+ Model Checking Made Symbolic", OOPSLA 2019, on the static bounds of cells and arenas, and on assignments.
use Rattle.std.specs.Prelude.{ℕ, zero, suc, Bool, true, false, List, [], ◌∷◌, ◌++◌, map, length, Option, Some, None}
use Rattle.kernel_shapes.specs.Shape.{Shape, inside, join}
use Rattle.kernel_shapes.specs.Counts.{Count, refusal}
use Rattle.kernel_shapes.specs.Sized.{Extent, Sizing, walked, assigned_from, picked_from, found, bind_shapes}

-- a step of a path, whose trees are given by what is computed of them
pub data Step : Type 0 where
  Guard : Sizing → Step
  -- bound names, each with its set
  Pick : List (List ℕ × Sizing) → Step
  Equals : ℕ → Sizing → Step
  Among : ℕ → Sizing → Step

abbrev pub Path : Type 0
Path = List Step

-- a job's or a kernel's parts
pub record Parts : Type 0 where
  -- of each name whether it is a constant
  pub fixed : List Bool
  pub constants : List Path
  pub assume : Sizing
  pub start : List Path
  pub next : List Path
  pub invariants : List Sizing

-- whether a path assigns in the next state, or in the state itself as in CInit and Init
pub data Assigns : Type 0 where
  in_next : Assigns
  in_state : Assigns

abbrev pub put : ℕ → Shape → List (Option Shape) → List (Option Shape)
put n a [] = []
put zero a (b ∷ bs) = Some a ∷ bs
put (suc n) a (b ∷ bs) = b ∷ put n a bs

abbrev pub assign : Assigns → ℕ → Shape → Extent → Extent
assign in_next i a g = record g { next = put i a g.next }
assign in_state i a g = record g { now = put i a g.now; next = put i a g.next }

-- the sets of a pick are read outside its names
abbrev pub picked_shapes : List (List ℕ × Sizing) → Extent → List Shape
picked_shapes [] g = []
picked_shapes (x ∷ xs) g = inside (x.1 g).shape ∷ picked_shapes xs g

abbrev pub picked_names : List (List ℕ × Sizing) → List (List ℕ)
picked_names [] = []
picked_names (x ∷ xs) = x.0 ∷ picked_names xs

abbrev pub picked_counts : List (List ℕ × Sizing) → Extent → List Count
picked_counts [] g = []
picked_counts (x ∷ xs) g = (x.1 g).counts picked_from ++ picked_counts xs g

-- the names behind a step
abbrev pub after_step : Assigns → Step → Extent → Extent
after_step k (Guard e) g = g
after_step k (Pick xs) g = bind_shapes (picked_names xs) (picked_shapes xs g) g
after_step k (Equals i e) g = assign k i (e g).shape g
after_step k (Among i e) g = assign k i (inside (e g).shape) g

abbrev pub step_numbers : Step → Extent → List Count
step_numbers (Guard e) g = (e g).counts walked
step_numbers (Pick xs) g = picked_counts xs g
step_numbers (Equals i e) g = (e g).counts walked
step_numbers (Among i e) g = (e g).counts assigned_from

abbrev pub after_path : Assigns → Path → Extent → Extent
after_path k [] g = g
after_path k (s ∷ ss) g = after_path k ss (after_step k s g)

abbrev pub path_numbers : Assigns → Path → Extent → List Count
path_numbers k [] g = []
path_numbers k (s ∷ ss) g = step_numbers s g ++ path_numbers k ss (after_step k s g)

abbrev pub numbers_of : Assigns → List Path → Extent → List Count
numbers_of k [] g = []
numbers_of k (p ∷ ps) g = path_numbers k p g ++ numbers_of k ps g

-- ---- the names at a level

abbrev pub join_each : List Shape → List Shape → List Shape
join_each [] bs = bs
join_each (a ∷ as') [] = a ∷ as'
join_each (a ∷ as') (b ∷ bs) = join a b ∷ join_each as' bs

-- the join over paths of what they leave in the next state; over no path a variable has Empty
abbrev pub after_paths : Assigns → List Path → Extent → List Shape
after_paths k [] g = map found g.next
after_paths k (p ∷ ps) g = join_each (map found (after_path k p g).next) (after_paths k ps g)

-- constants keep their shapes, and a variable has none before it is assigned
abbrev pub kept_constants : List Bool → List Shape → List (Option Shape)
kept_constants [] as' = []
kept_constants (b ∷ bs) [] = []
kept_constants (true ∷ bs) (a ∷ as') = Some a ∷ kept_constants bs as'
kept_constants (false ∷ bs) (a ∷ as') = None ∷ kept_constants bs as'

abbrev pub at_state : List Shape → Extent
at_state as' = record { now = map (λ a. Some a) as'; next = map (λ a. Some a) as'; bound = [] }

-- before CInit no name has a shape, and before Init the constants alone
abbrev pub at_names : List (Option Shape) → Extent
at_names os = record { now = os; next = os; bound = [] }

abbrev pub from_state : List Bool → List Shape → Extent
from_state bs as' = record { now = map (λ a. Some a) as'; next = kept_constants bs as'; bound = [] }

abbrev pub no_names : Parts → Extent
no_names p = at_names (map (λ b. None) p.fixed)

abbrev pub constant_shapes : Parts → List Shape
constant_shapes p = after_paths in_state p.constants (no_names p)

abbrev pub the_constants : Parts → Extent
the_constants p = at_names (kept_constants p.fixed (constant_shapes p))

abbrev pub start_shapes : Parts → List Shape
start_shapes p = after_paths in_state p.start (the_constants p)

-- the next level from this one
abbrev pub next_shapes : Parts → List Shape → List Shape
next_shapes p as' = after_paths in_next p.next (from_state p.fixed as')

abbrev pub shapes_at : Parts → List Shape → ℕ → List Shape
shapes_at p first zero = first
shapes_at p first (suc n) = next_shapes p (shapes_at p first n)

-- ---- the numbers of a level

abbrev pub invariant_numbers : List Sizing → Extent → List Count
invariant_numbers [] g = []
invariant_numbers (e ∷ es) g = (e g).counts walked ++ invariant_numbers es g

abbrev pub start_numbers : Parts → List Count
start_numbers p =
    numbers_of in_state p.constants (no_names p)
    ++ (p.assume (the_constants p)).counts walked
    ++ numbers_of in_state p.start (the_constants p)

-- at level 0 those of the start, if it counts, and behind it those of the step into the level
abbrev pub step_numbers_at : Parts → List Count → List Shape → ℕ → List Count
step_numbers_at p start first zero = start
step_numbers_at p start first (suc n) = numbers_of in_next p.next (from_state p.fixed (shapes_at p first n))

abbrev pub level_numbers : Parts → List Count → List Shape → ℕ → List Count
level_numbers p start first n =
    step_numbers_at p start first n ++ invariant_numbers p.invariants (at_state (shapes_at p first n))

-- the refusal of the least level that has one, over so many levels from n on
abbrev pub first_refusal : Parts → List Count → List Shape → ℕ → ℕ → Option (ℕ × Count)
first_refusal p start first n zero = None
first_refusal p start first n (suc m) =
    elim (refusal (level_numbers p start first n)) [
      | Some c ↦ Some (n, c)
      | None ↦ first_refusal p start first (suc n) m
    ]

-- at a typed state Init does not count
abbrev pub typed_numbers : Parts → List Count
typed_numbers p =
    numbers_of in_state p.constants (no_names p)
    ++ (p.assume (the_constants p)).counts walked

-- what is answered for levels 0 to `length`: from the start, and from shapes that are handed in
abbrev pub refused : Parts → ℕ → Option (ℕ × Count)
refused p length = first_refusal p (start_numbers p) (start_shapes p) 0 (suc length)

abbrev pub refused_from : Parts → List Shape → ℕ → Option (ℕ × Count)
refused_from p first length = first_refusal p [] first 0 (suc length)

abbrev pub refused_typed : Parts → List Shape → Option (ℕ × Count)
refused_typed p first = first_refusal p (typed_numbers p) first 0 2
