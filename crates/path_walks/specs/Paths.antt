-- What the literals and cells of a path say of states, in both directions: where an assignment satisfies the formula
-- and a literal, what its cells decode to is so; and whatever is so for some picks is decoded by such an assignment.
-- Source: Konnov, Kukovec and Tran, "TLA+ Model Checking Made Symbolic", OOPSLA 2019, on symbolic transitions.
use Rattle.std.specs.Prelude.{◌≡◌, ◌<◌, ℕ, Bool, true, false, not, ◌&&◌, IsTrue, List, [], ◌∷◌, ◌++◌, All, length, map}
use Rattle.std.specs.Prelude.{flat_map, Option, Some, None, option_and_then, slice_get}
use Rattle.sat_formula.specs.declared.cnf.Cnf.{Cnf}
use Rattle.sat_formula.specs.declared.lit.Lit.{Lit}
use Rattle.sat_formula.specs.Formula.{Satisfies}
use Rattle.sat_formula.specs.Lit.{lit_value}
use Rattle.tla_values.specs.Sets.{Normal}
use Rattle.tla_values.specs.declared.value.Value.{Value}
use Rattle.tla_meaning.specs.declared.job.State.{State}
use Rattle.tla_meaning.specs.declared.outcome.Fault.{Fault}
use Rattle.tla_meaning.specs.Numbers.{Width}
use Rattle.tla_meaning.specs.Scopes.{Scope}
use Rattle.cell_arena.specs.declared.build.Build.{Build}
use Rattle.cell_arena.specs.declared.kinds.CellId.{CellId}
use Rattle.cell_arena.specs.declared.kinds.CellKind.{CellKind}
use Rattle.cell_arena.specs.Cells.{Cells as Arena}
use Rattle.cell_arena.specs.Decode.{decode}
use Rattle.cell_merge.specs.Sorts.{OfSort}
use Rattle.kernel_trees.specs.declared.path.AssignedStep.{AssignedStep}
use Rattle.kernel_trees.specs.Assignments.{AssignedHolds, AssignedMeets, Has, assigned_by, is_in, read_by, reads_late}
use Rattle.kernel_trees.specs.Paths.{Marks}
use Rattle.kernel_trees.specs.Sound.{Context, kind_in, sound_assigned}
use Rattle.kernel_trees.specs.TypeKinds.{Kind}
use Rattle.outcome_cells.specs.Shown.{big_fault, wrong_fault}
use Rattle.typed_cells.specs.KindSorts.{HasSort, sort_of}
use Rattle.typed_cells.specs.Known.{IsTextAmong}
use Rattle.expr_rewriter.specs.declared.cell_env.CellEnv.{CellEnv}
use Rattle.expr_rewriter.specs.Environments.{AreThere, Fits, bound_cell, name_cell, next_cell}
use Rattle.expr_rewriter.specs.Rewriting.{texts_in}
use Rattle.path_walks.specs.declared.answer.PathCells.{PathCells}
use Rattle.path_walks.specs.Steps.{PathHasKinds, PathWithin, assigns, front_picks}

-- ---- what is said of cells

-- the assignment goes on to one that satisfies the formula, of which this holds
pub record GoesOn (f : Cnf) (a : List Bool) (P : List Bool → Type 0) : Type 0 where
  pub more : List Bool
  pub long : length (a ++ more) ≡ f.vars
  pub satisfies : Satisfies (a ++ more) f
  pub holds : P (a ++ more)

-- for each declared name the cell of its value, and a literal that is true where it has one
abbrev pub Items : Type 0
Items = List (Option (CellId × Lit))

abbrev pub item_at : Items → ℕ → Option (CellId × Lit)
item_at items i = option_and_then (λ o. o) (slice_get items i)

-- whether the name has a value
abbrev pub is_given : Option (CellId × Lit) → List Bool → Bool
is_given None = λ a. false
is_given (Some x) = lit_value x.1

-- each name that these steps assign, and whose literal is true, has the value of its cell in the next state
abbrev pub Given : Arena → List Bool → List AssignedStep → Items → State → Type 0
Given c a zs items t =
    (i : ℕ) (x : CellId × Lit) → assigns zs i ≡ true → item_at items i ≡ Some x → lit_value x.1 a ≡ true →
    Has t i (decode c a x.0)

-- the values that are picked, by the cells of each pick
abbrev pub picked : Arena → List Bool → List (List CellId) → List (List Value)
picked c a picks = map (λ ids. map (decode c a) ids) picks

-- a scope and two states that have the values of the environment's cells, where each range that the path evaluates lies
-- within its bounds
pub record Stands (b : Build) (env : CellEnv) (zs : List AssignedStep) (a : List Bool) (sc : Scope)
    (s t : State) : Type 0 where
  pub fits : Fits b.arena a env sc s t
  pub within : PathWithin (Some b.arena.width) s t zs sc

abbrev pub AllNormal : State → Type 0
AllNormal t = (i : ℕ) (v : Value) → Has t i v → Normal v

-- ---- both directions

-- The test says that the steps hold: where it is true they do, for the values that are picked, at all states that have
-- the values of the cells; and where they do for some picks, it is true under an assignment that goes on from the older
-- formula's to these picks and to the values of the next state.
pub record SaysHolds (old new : Build) (env : CellEnv) (items : Items) (zs : List AssignedStep)
    (picks : List (List CellId)) (on : List Bool → Bool) : Type 0 where
  pub sound : (a : List Bool) → Satisfies a new.formula → on a ≡ true → (sc : Scope) (s t : State) →
      Stands old env zs a sc s t → Given new.arena a zs items t →
      AssignedHolds (Some old.arena.width) s t zs (picked new.arena a picks) sc
  pub reach : (a : List Bool) → length a ≡ old.formula.vars → Satisfies a old.formula → (sc : Scope) (s t : State) →
      Stands old env zs a sc s t → AllNormal t → (vss : List (List Value)) →
      AssignedHolds (Some old.arena.width) s t zs vss sc →
      GoesOn new.formula a (λ b. (on b ≡ true) × ((picked new.arena b picks ≡ vss) × Given new.arena b zs items t))

-- a fault for which the test is true
pub record MeetsSome (is : Fault → Bool) (w : Width) (s t : State) (zs : List AssignedStep) (vss : List (List Value))
    (sc : Scope) : Type 0 where
  pub fault : Fault
  pub is_so : is fault ≡ true
  pub meets : AssignedMeets w s t zs vss sc fault

-- the test says likewise that the steps meet a fault that is Wrong, or one that is Big
pub record SaysMeets (is : Fault → Bool) (old new : Build) (env : CellEnv) (items : Items) (zs : List AssignedStep)
    (picks : List (List CellId)) (bad : List Bool → Bool) : Type 0 where
  pub sound : (a : List Bool) → Satisfies a new.formula → bad a ≡ true → (sc : Scope) (s t : State) →
      Stands old env zs a sc s t → Given new.arena a zs items t →
      MeetsSome is (Some old.arena.width) s t zs (picked new.arena a picks) sc
  pub find : (a : List Bool) → length a ≡ old.formula.vars → Satisfies a old.formula → (sc : Scope) (s t : State) →
      Stands old env zs a sc s t → AllNormal t → (vss : List (List Value)) →
      MeetsSome is (Some old.arena.width) s t zs vss sc → GoesOn new.formula a (λ b. bad b ≡ true)

-- ---- the answer

-- the name has a value
abbrev pub HasItem : List Bool → Items → ℕ → Type 0
HasItem a items i = (x : CellId × Lit) × ((item_at items i ≡ Some x) × (lit_value x.1 a ≡ true))

-- the literals are the formula's, and the cells there
pub record AreBelow (b : Build) (x : PathCells) : Type 0 where
  pub holds : x.holds.var < b.formula.vars
  pub wrong : x.wrong.var < b.formula.vars
  pub big : x.big.var < b.formula.vars
  pub items : (i : ℕ) (y : CellId × Lit) → item_at x.next i ≡ Some y →
      (y.0.index < length b.arena.kinds) × (y.1.var < b.formula.vars)

-- The literals say that the path holds, that it meets a fault that is Wrong and one that is Big, and of each name that
-- the steps up to its assignment hold; where the path holds each name that it assigns has its value, and no other name
-- has an item. What it reaches has the kinds of its types.
pub record IsPathCells (old new : Build) (env : CellEnv) (zs : List AssignedStep) (x : PathCells) : Type 0 where
  pub below : AreBelow new x
  pub picks : List (List CellId)
  pub holds : SaysHolds old new env x.next zs picks (lit_value x.holds)
  pub wrong : SaysMeets wrong_fault old new env x.next zs picks (lit_value x.wrong)
  pub big : SaysMeets big_fault old new env x.next zs picks (lit_value x.big)
  pub items : (front : List AssignedStep) (z : AssignedStep) (back : List AssignedStep) → zs ≡ front ++ z ∷ back →
      (i : ℕ) → is_in (assigned_by z) i ≡ true →
      SaysHolds old new env x.next (front ++ z ∷ []) (front_picks (front ++ z ∷ []) picks) (is_given (item_at x.next i))
  pub whole : (a : List Bool) → Satisfies a new.formula → lit_value x.holds a ≡ true → (i : ℕ) → assigns zs i ≡ true →
      HasItem a x.next i
  pub others : (i : ℕ) → assigns zs i ≡ false → item_at x.next i ≡ None
  pub kinds : (a : List Bool) → length a ≡ old.formula.vars → Satisfies a old.formula → (sc : Scope) (s t : State) →
      Stands old env zs a sc s t → AllNormal t → PathHasKinds (Some old.arena.width) s t zs sc

-- one item for each name, and each cell is of its name's type, by any types over which the path is sound
pub record HasNextSorts (b : Build) (env : CellEnv) (zs : List AssignedStep) (x : PathCells) : Type 0 where
  pub count : length x.next ≡ length env.next
  pub sorts : (names : List Kind) (c : Context) → IsTrue (sound_assigned names c zs) →
      (i : ℕ) (a : Kind) (y : CellId × Lit) → slice_get names i ≡ Some a → item_at x.next i ≡ Some y →
      OfSort b.arena.kinds (sort_of a) y.0

-- ---- the call

-- a name without a cell
abbrev pub is_blank : Option CellId → Bool
is_blank None = true
is_blank (Some id) = false

abbrev pub blank : CellEnv → Marks
blank env i primed = is_blank (name_cell env i primed)

-- no name is assigned twice
abbrev pub each_once : List ℕ → Bool
each_once [] = true
each_once (i ∷ is) = not (is_in is i) && each_once is

-- the text constants of a path, and the field names of the records in its types
abbrev pub path_texts : List AssignedStep → List (List ℕ)
path_texts zs = flat_map texts_in (flat_map read_by zs)

-- the cells are of the types of their names, and each bound number of the context has one; `next` has a place for each
-- name
pub record HoldsCells (ks : List CellKind) (names : List Kind) (c : Context) (env : CellEnv) : Type 0 where
  pub there : AreThere (length ks) env
  pub count : length env.next ≡ length names
  pub current : (i : ℕ) (a : Kind) (id : CellId) → slice_get names i ≡ Some a → slice_get env.now i ≡ Some id →
      OfSort ks (sort_of a) id
  pub following : (i : ℕ) (a : Kind) (id : CellId) → slice_get names i ≡ Some a → next_cell env i ≡ Some id →
      OfSort ks (sort_of a) id
  pub numbered : (n : ℕ) (a : Kind) → kind_in c n ≡ Some a → HasSort ks (sort_of a) (bound_cell env.bound n)

-- a sound path that assigns no name twice; cells of their types, for each name that is read before the path assigns it;
-- and texts that are the build's, the empty one among them
pub record CanRewritePath (b : Build) (env : CellEnv) (zs : List AssignedStep) : Type 0 where
  pub names : List Kind
  pub context : Context
  pub sound : IsTrue (sound_assigned names context zs)
  pub once : IsTrue (each_once (flat_map assigned_by zs))
  pub cells : HoldsCells b.arena.kinds names context env
  pub known : IsTrue (reads_late (blank env) [] zs)
  pub texts : All (IsTextAmong b.arena.texts) ([] ∷ path_texts zs)
