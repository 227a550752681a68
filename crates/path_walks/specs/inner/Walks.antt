-- A walk over the steps of a path: what its cells say after the first steps, and what those of one step say.
use Rattle.std.specs.Prelude.{◌≡◌, ◌<◌, ℕ, Bool, true, false, not, ◌&&◌, ◌||◌, List, [], ◌∷◌, ◌++◌, All, length, map}
use Rattle.std.specs.Prelude.{zip, Option, Some, slice_set}
use Rattle.std.specs.List.{list_all}
use Rattle.sat_formula.specs.declared.cnf.Cnf.{Cnf}
use Rattle.sat_formula.specs.declared.lit.Lit.{Lit}
use Rattle.sat_formula.specs.Formula.{HasValue, Satisfies}
use Rattle.sat_formula.specs.Lit.{IsBelow, lit_value}
use Rattle.tla_values.specs.declared.value.Value.{Value}
use Rattle.tla_meaning.specs.declared.job.State.{State}
use Rattle.tla_meaning.specs.Numbers.{Width}
use Rattle.tla_meaning.specs.Scopes.{Scope}
use Rattle.cell_arena.specs.declared.build.Build.{Build}
use Rattle.cell_arena.specs.declared.kinds.CellId.{CellId}
use Rattle.cell_arena.specs.Cells.{Cells as Arena}
use Rattle.cell_arena.specs.Decode.{decode}
use Rattle.cell_arena.specs.Growth.{Grows}
use Rattle.kernel_trees.specs.declared.path.AssignedStep.{AssignedStep}
use Rattle.kernel_trees.specs.declared.path.AssignedStep.TheVariants as mark
use Rattle.kernel_trees.specs.Assignments.{Has}
use Rattle.kernel_trees.specs.Paths.{numbers}
use Rattle.kernel_trees.specs.Picks.{picking}
use Rattle.outcome_cells.specs.Shows.{FaultsBelow}
use Rattle.outcome_cells.specs.Shown.{ShownFault}
use Rattle.expr_rewriter.specs.declared.cell_env.CellEnv.{CellEnv}
use Rattle.expr_rewriter.specs.Environments.{Fits}
use Rattle.path_walks.specs.declared.answer.PathCells.{PathCells}
use Rattle.path_walks.specs.declared.answer.StepCells.{StepCells}
use Rattle.path_walks.specs.Steps.{StepHasKind, StepWithin, Takes, own_picks, step_fault}
use Rattle.path_walks.specs.Paths.{AllNormal, Given, GoesOn, IsPathCells, Items, picked}

-- ---- one step

abbrev pub all_true : List Lit → List Bool → Bool
all_true ls a = list_all (λ l. lit_value l a) ls

-- the next state has the value of the cell, where the step gives one
abbrev pub Gives : Arena → List Bool → AssignedStep → List CellId → State → Type 0
Gives c a (mark.Guard k b) ids t = Unit {0}
Gives c a (mark.Pick ps) ids t = Unit {0}
Gives c a (mark.Equals i e) ids t = All (λ id. Has t i (decode c a id)) ids
Gives c a (mark.Among i e) ids t = All (λ id. Has t i (decode c a id)) ids

-- as many cells as the step picks or gives values
abbrev pub OneEach : AssignedStep → List CellId → Type 0
OneEach (mark.Guard k b) ids = Unit {0}
OneEach (mark.Pick ps) ids = length ids ≡ length ps
OneEach (mark.Equals i e) ids = length ids ≡ 1
OneEach (mark.Among i e) ids = length ids ≡ 1

-- The cells of a step, in the environment of those before it: its literals show its fault; where they say that it holds
-- it does, for the values of its cells; and whatever it may pick or give is decoded by an assignment that goes on.
pub record IsStep (w : Width) (g h : Build) (env : CellEnv) (z : AssignedStep) (m : StepCells) : Type 0 where
  pub faults_below : FaultsBelow h.formula.vars m.faults
  pub choices_below : All (IsBelow h.formula.vars) m.choices
  pub there : All (λ id. id.index < length h.arena.kinds) m.cells
  pub shows : (a : List Bool) → Satisfies a h.formula → (sc : Scope) (s t : State) → Fits h.arena a env sc s t →
      StepWithin w s t z sc →
      ShownFault (lit_value m.faults.wrong a) (lit_value m.faults.big a) (step_fault w s t z sc)
  pub sound : (a : List Bool) → Satisfies a h.formula → all_true m.choices a ≡ true →
      lit_value m.faults.wrong a ≡ false → lit_value m.faults.big a ≡ false →
      (sc : Scope) (s t : State) → Fits h.arena a env sc s t →
      StepWithin w s t z sc → Gives h.arena a z m.cells t →
      Takes w s t z (map (decode h.arena a) m.cells) sc
  pub reach : (a : List Bool) → length a ≡ g.formula.vars → Satisfies a g.formula → (sc : Scope) (s t : State) →
      Fits g.arena a env sc s t → StepWithin w s t z sc → AllNormal t → (vs : List Value) →
      Takes w s t z vs sc →
      GoesOn h.formula a (λ b. (all_true m.choices b ≡ true) ×
      ((own_picks z (map (decode h.arena b) m.cells) ≡ own_picks z vs) × Gives h.arena b z m.cells t))
  pub kind : (a : List Bool) → Satisfies a h.formula → (sc : Scope) (s t : State) → Fits h.arena a env sc s t →
      StepWithin w s t z sc → StepHasKind w s t z sc

-- ---- several steps

-- the scope behind the steps, by the values that each pick on the path takes
abbrev pub scope_after : List AssignedStep → List (List Value) → Scope → Scope
scope_after [] vss sc = sc
scope_after (mark.Guard k b ∷ zs) vss sc = scope_after zs vss sc
scope_after (mark.Pick ps ∷ zs) [] sc = scope_after zs [] sc
scope_after (mark.Pick ps ∷ zs) (vs ∷ vss) sc = scope_after zs vss (picking ps vs sc)
scope_after (mark.Equals i e ∷ zs) vss sc = scope_after zs vss sc
scope_after (mark.Among i e ∷ zs) vss sc = scope_after zs vss sc

-- something for each pick of the path
abbrev pub AreCounted : {X : Type 0} → List AssignedStep → List X → Type 0
AreCounted [] [] = Unit {0}
AreCounted [] (x ∷ xs) = ⊥
AreCounted (mark.Guard k b ∷ zs) xs = AreCounted zs xs
AreCounted (mark.Pick ps ∷ zs) [] = ⊥
AreCounted (mark.Pick ps ∷ zs) (x ∷ xs) = AreCounted zs xs
AreCounted (mark.Equals i e ∷ zs) xs = AreCounted zs xs
AreCounted (mark.Among i e ∷ zs) xs = AreCounted zs xs

-- the environment behind a step, and the items, where the literal says that the path holds so far
abbrev pub put_next : ℕ → List CellId → List (Option CellId) → List (Option CellId)
put_next i [] next = next
put_next i (id ∷ ids) next = slice_set next i (Some id)

abbrev pub put_item : ℕ → List CellId → Lit → Items → Items
put_item i [] l items = items
put_item i (id ∷ ids) l items = slice_set items i (Some (id, l))

abbrev pub env_past : AssignedStep → List CellId → CellEnv → CellEnv
env_past (mark.Guard k b) ids env = env
env_past (mark.Pick ps) ids env = record { now = env.now; next = env.next; bound = env.bound ++ zip (numbers ps) ids }
env_past (mark.Equals i e) ids env = record { now = env.now; next = put_next i ids env.next; bound = env.bound }
env_past (mark.Among i e) ids env = record { now = env.now; next = put_next i ids env.next; bound = env.bound }

abbrev pub items_past : AssignedStep → List CellId → Lit → Items → Items
items_past (mark.Guard k b) ids l items = items
items_past (mark.Pick ps) ids l items = items
items_past (mark.Equals i e) ids l items = put_item i ids l items
items_past (mark.Among i e) ids l items = put_item i ids l items

-- the literals behind a step: it holds where its literals say so and it has no fault, and its fault counts where the
-- steps before it hold
pub record AddsLiterals (f : Cnf) (m : StepCells) (x y : PathCells) : Type 0 where
  pub holds : HasValue f y.holds (λ a. lit_value x.holds a &&
      (all_true m.choices a && (not (lit_value m.faults.wrong a) && not (lit_value m.faults.big a))))
  pub wrong : HasValue f y.wrong (λ a. lit_value x.wrong a || (lit_value x.holds a && lit_value m.faults.wrong a))
  pub big : HasValue f y.big (λ a. lit_value x.big a || (lit_value x.holds a && lit_value m.faults.big a))

-- The cells of the first steps of a path, and the environment behind them: where they hold, what has the values of the
-- cells before the path and of its items has those of the environment.
pub record Walk (old new : Build) (start env : CellEnv) (zs : List AssignedStep) (x : PathCells) : Type 0 where
  pub grows : Grows old new
  pub cells : IsPathCells old new start zs x
  pub counted : AreCounted zs cells.picks
  pub there : All (All (λ id. id.index < length new.arena.kinds)) cells.picks
  pub fits : (a : List Bool) → Satisfies a new.formula → lit_value x.holds a ≡ true → (sc : Scope) (s t : State) →
      Fits old.arena a start sc s t → Given new.arena a zs x.next t →
      Fits new.arena a env (scope_after zs (picked new.arena a cells.picks) sc) s t
