-- A path in whose trees each range carries the ends of its numbers, by the shapes that names have at that step. Source:
-- Konnov, Kukovec and Tran, "TLA+ Model Checking Made Symbolic", OOPSLA 2019, on the static bounds of cells and arenas,
-- and on assignments.
use Rattle.std.specs.Prelude.{ℕ, zero, suc, ◌≤◌, ◌≡◌, ◌↔◌, Bool, true, false, IsTrue, List, [], ◌∷◌, map, length, nat_lt, Option, Some}
use Rattle.std.specs.List.{list_all}
use Rattle.tla_values.specs.declared.value.Value.{Value}
use Rattle.tla_meaning.specs.declared.job.State.{State}
use Rattle.tla_meaning.specs.declared.outcome.Fault.{Fault}
use Rattle.tla_meaning.specs.Numbers.{Width}
use Rattle.tla_meaning.specs.Scopes.{Scope}
use Rattle.snowcat_rows.specs.declared.types.Ty.{Ty}
use Rattle.kernel_trees.specs.declared.kernel.Ker.{Ker}
use Rattle.kernel_trees.specs.declared.kernel.KerOp.{KerOp}
use Rattle.kernel_trees.specs.declared.path.Assigned.{Assigned}
use Rattle.kernel_trees.specs.declared.path.AssignedStep.{AssignedStep}
use Rattle.kernel_trees.specs.declared.path.AssignedStep.TheVariants as mark
use Rattle.kernel_trees.specs.Assignments.{AssignedHolds, AssignedMeets, HasSets, assigned_by, read_by, reads_late}
use Rattle.kernel_trees.specs.Paths.{Marks, numbers, sets}
use Rattle.kernel_trees.specs.Sound.{Context, sound_assigned}
use Rattle.kernel_trees.specs.Systems.{texts_on}
use Rattle.kernel_trees.specs.Trees.{names_of}
use Rattle.kernel_trees.specs.TypeKinds.{Kind}
use Rattle.kernel_shapes.specs.Kernel.{ker_shape}
use Rattle.kernel_shapes.specs.Laws.{IsNormal, Ready}
use Rattle.kernel_shapes.specs.Levels.{Assigns, in_next, in_state}
use Rattle.kernel_shapes.specs.Shape.{Shape, inside}
use Rattle.kernel_shapes.specs.Sized.{Extent, bind_shapes}
use Rattle.kernel_shapes.specs.Systems.{no_scope}
use Rattle.kernel_shapes.specs.TypedExtents.{OfTypes, without_shape}
use Rattle.tree_bounds.specs.Bounded.{with_bounds}
use Rattle.shape_bounds.specs.BoundedTrees.{PassesNumbers, each_node}
use Rattle.shape_bounds.specs.Extents.{given_shape}
use Rattle.path_bounds.specs.Steps.{PathWithin}

-- ---- the shapes of names along a path

abbrev pub put_shape : ℕ → Option Shape → List (Option Shape) → List (Option Shape)
put_shape n o [] = []
put_shape zero o (b ∷ bs) = o ∷ bs
put_shape (suc n) o (b ∷ bs) = b ∷ put_shape n o bs

-- a name is assigned a value of the shape; one of Empty, which no value fits, has no shape from there
abbrev pub assign_shape : Assigns → ℕ → Shape → Extent → Extent
assign_shape in_next i a g = record g { next = put_shape i (given_shape a) g.next }
assign_shape in_state i a g = record g {
  now = put_shape i (given_shape a) g.now;
  next = put_shape i (given_shape a) g.next;
}

-- the names behind a step
abbrev pub past : ℕ → Assigns → AssignedStep → Extent → Extent
past w a (mark.Guard k b) g = g
past w a (mark.Pick ps) g =
    bind_shapes (names_of (numbers ps)) (map (λ k. inside (ker_shape w k g)) (sets ps)) g
past w a (mark.Equals i e) g = assign_shape a i (ker_shape w e g) g
past w a (mark.Among i e) g = assign_shape a i (inside (ker_shape w e g)) g

-- ---- the path with bounds

abbrev pub with_trees : (Ker → Ker) → AssignedStep → AssignedStep
with_trees f (mark.Guard k b) = mark.Guard (f k) b
with_trees f (mark.Pick ps) = mark.Pick (map (λ p. (p.0, f p.1)) ps)
with_trees f (mark.Equals i e) = mark.Equals i (f e)
with_trees f (mark.Among i e) = mark.Among i (f e)

-- a step, in whose trees the ranges have their bounds where names have these shapes
abbrev pub bounded_step : ℕ → Extent → AssignedStep → AssignedStep
bounded_step w g z = with_trees (λ k. with_bounds w k (g ∷ [])) z

abbrev pub bounded_steps : ℕ → Assigns → List AssignedStep → Extent → List AssignedStep
bounded_steps w a [] g = []
bounded_steps w a (z ∷ zs) g = bounded_step w g z ∷ bounded_steps w a zs (past w a z g)

-- ---- where a path begins

-- each name has a shape in the state; in CInit and Init, where the state is assigned, marked names may have none
abbrev pub HasNow : Assigns → Marks → Extent → ℕ → Type 0
HasNow in_next m g i = without_shape g i false ≡ false
HasNow in_state m g i = without_shape g i false ≡ true → m i false ≡ true

-- the shapes are of the types of the names, and only marked names, which the path may assign, have none
pub record Begins (a : Assigns) (names : List Kind) (m : Marks) (g : Extent) : Type 0 where
  pub types : OfTypes names [] g
  pub now : (i : ℕ) → IsTrue (nat_lt i (length names)) → HasNow a m g i
  pub next : (i : ℕ) → IsTrue (nat_lt i (length names)) → without_shape g i true ≡ true → m i true ≡ true

-- a path of CInit or Init is held against one state, which is its own next one
abbrev pub IsOwnNext : Assigns → State → State → Type 0
IsOwnNext in_next s t = Unit {0}
IsOwnNext in_state s t = s ≡ t

-- two states of normal values that fit the shapes
pub record StartsAt (a : Assigns) (g : Extent) (s t : State) : Type 0 where
  pub ready : Ready no_scope g s t
  pub normal : IsNormal no_scope s t
  pub own : IsOwnNext a s t

-- ---- what is answered

abbrev pub nodes_on : (KerOp → Ty → Bool) → List AssignedStep → Bool
nodes_on test = list_all (λ z. list_all (each_node test) (read_by z))

-- The path x with the bounds of its ranges: changed in these alone, it holds, meets faults and has sets as x does, assigns
-- and reads the same names, has the texts and no new node but integer constants, and is sound where x is. Where x is sound
-- and reads no marked name before its assignment, and from states that fit the shapes at its start, each range that the
-- evaluation of its steps comes to lies within its bounds.
pub record HasPathBounds (w : ℕ) (a : Assigns) (x : Assigned) (g : Extent) (r : Assigned) : Type 0 where
  pub place : r.place ≡ x.place
  pub steps : r.steps ≡ bounded_steps w a x.steps g
  pub holds : (v : Width) (s t : State) (vss : List (List Value)) (sc : Scope) →
      AssignedHolds v s t r.steps vss sc ↔ AssignedHolds v s t x.steps vss sc
  pub meets : (v : Width) (s t : State) (vss : List (List Value)) (sc : Scope) (f : Fault) →
      AssignedMeets v s t r.steps vss sc f ↔ AssignedMeets v s t x.steps vss sc f
  pub has_sets : (v : Width) (s t : State) (sc : Scope) → HasSets v s t r.steps sc ↔ HasSets v s t x.steps sc
  pub assigned : map assigned_by r.steps ≡ map assigned_by x.steps
  pub late : (m : Marks) (before : List ℕ) → reads_late m before r.steps ≡ reads_late m before x.steps
  pub nodes : (test : KerOp → Ty → Bool) → PassesNumbers test → IsTrue (nodes_on test x.steps) → IsTrue (nodes_on test r.steps)
  pub texts : (xs : List (List ℕ)) → IsTrue (texts_on xs x.steps) → IsTrue (texts_on xs r.steps)
  pub stays_sound : (names : List Kind) (c : Context) → IsTrue (sound_assigned names c x.steps) → IsTrue (sound_assigned names c r.steps)
  pub within : (names : List Kind) (m : Marks) (s t : State) → 2 ≤ w → IsTrue (sound_assigned names [] x.steps) →
      IsTrue (reads_late m [] x.steps) → Begins a names m g → StartsAt a g s t → PathWithin (Some w) s t r.steps no_scope
