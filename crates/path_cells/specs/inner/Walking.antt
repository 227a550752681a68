-- One step more of the walk over a path.
use Rattle.std.specs.Prelude.{◌≡◌, ◌⊎◌, ℕ, true, false, List, [], ◌∷◌, ◌++◌, length, map, Option, None}
use Rattle.std.specs.List.{list_any}
use Rattle.sat_formula.specs.declared.cnf.Cnf.{Cnf}
use Rattle.sat_formula.specs.declared.lit.Lit.{Lit}
use Rattle.cell_arena.specs.declared.build.Build.{Build}
use Rattle.cell_arena.specs.declared.kinds.CellId.{CellId}
use Rattle.cell_arena.specs.Growth.{Grows}
use Rattle.kernel_trees.specs.declared.path.AssignedStep.{AssignedStep}
use Rattle.expr_rewriter.specs.declared.cell_env.CellEnv.{CellEnv}
use Rattle.path_cells.specs.declared.walk.Walk.{Walk}
use Rattle.path_walks.specs.declared.answer.PathCells.{PathCells}
use Rattle.path_walks.specs.declared.answer.StepCells.{StepCells}
use Rattle.path_walks.specs.Paths.{AreBelow, CanRewritePath, HasNextSorts}
use Rattle.path_walks.specs.inner.Walks.{AddsLiterals, Walk as WalkOver, env_past, items_past}
use Rattle.path_cells.specs.inner.Steps.{IsStepCells, LiteralsBelow, StepBelow, is_never, negation, the_bottom}

-- ---- the start

-- no step: the path holds, and gives no name a value
abbrev pub no_steps : Lit → List (Option CellId) → PathCells
no_steps top next = record { holds = top; wrong = negation top; big = negation top; next = map (λ _. None) next }

-- ---- one step more

-- behind a step with these cells
pub record IsPast (z : AssignedStep) (ids : List CellId) (u v : Walk) : Type 0 where
  pub env : v.env ≡ env_past z ids u.env
  pub cells : v.cells ≡ record u.cells { next = items_past z ids u.cells.holds u.cells.next }

pub record CanAdd (n : ℕ) (u : Walk) (m : StepCells) : Type 0 where
  pub path : LiteralsBelow n u.cells
  pub step : StepBelow n m

-- what comes behind a step, and behind one that never holds
pub data Adds (f : Cnf) (z : AssignedStep) (m : StepCells) (u v : Walk) : Type 0 where
  never : list_any is_never m.choices ≡ true → AddsLiterals f m u.cells v.cells → v.cells.holds ≡ the_bottom →
      v.cells.next ≡ u.cells.next → v.env ≡ u.env → Adds f z m u v
  takes : list_any is_never m.choices ≡ false → AddsLiterals f m u.cells v.cells → v.env ≡ env_past z m.cells u.env →
      v.cells.next ≡ items_past z m.cells v.cells.holds u.cells.next → Adds f z m u v

-- one step more: nothing where the walk is over
pub data Turn (g h : Build) (z : AssignedStep) (u v : Walk) : Type 0 where
  over : is_never u.cells.holds ≡ true → h ≡ g → v ≡ u → Turn g h z u v
  adds : is_never u.cells.holds ≡ false → (i : Build) (m : StepCells) → Grows g i → IsStepCells g i u.env z m →
      Grows i h → h.arena ≡ i.arena → Adds h.formula z m u v → Turn g h z u v

-- a walk that is not over can go on with the step
pub record CanGoOn (b : Build) (u : Walk) (z : AssignedStep) : Type 0 where
  pub below : AreBelow b u.cells
  pub can : (is_never u.cells.holds ≡ true) ⊎ CanRewritePath b u.env (z ∷ [])

-- the walk over the first steps, and that it can go on
pub record IsWalking (old g : Build) (start : CellEnv) (front back : List AssignedStep) (u : Walk) : Type 0 where
  pub walk : WalkOver old g start u.env front u.cells
  pub count : length u.cells.next ≡ length u.env.next
  pub sorts : HasNextSorts g start (front ++ back) u.cells
  pub can : (is_never u.cells.holds ≡ true) ⊎ CanRewritePath g u.env back
