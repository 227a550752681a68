-- A fold over the places of a sequence, over the cells of its first value and of its sequence.
use Rattle.std.specs.Prelude.{◌≡◌, ℕ, Bool, true, false, IsTrue, List, [], ◌∷◌, drop, Option, Some, slice_get}
use Rattle.sat_formula.specs.Formula.{Satisfies}
use Rattle.tla_values.specs.declared.value.Value.{Value}
use Rattle.tla_meaning.specs.declared.job.State.{State}
use Rattle.tla_meaning.specs.declared.outcome.Outcome.{Outcome}
use Rattle.tla_meaning.specs.declared.outcome.Outcome.TheVariants.{Val}
use Rattle.tla_meaning.specs.Meaning.{folded}
use Rattle.tla_meaning.specs.Outcomes.{with_value}
use Rattle.tla_meaning.specs.Scopes.{Scope, bind}
use Rattle.cell_arena.specs.declared.build.Build.{Build}
use Rattle.cell_arena.specs.Cells.{Cells as Arena}
use Rattle.cell_arena.specs.Decode.{decode}
use Rattle.kernel_trees.specs.declared.kernel.Ker.{Ker, out-Ker}
use Rattle.kernel_trees.specs.Sound.{Context, sound}
use Rattle.kernel_trees.specs.Trees.{ker_val, names_of}
use Rattle.kernel_trees.specs.TypeKinds.{Kind}
use Rattle.kernel_ranges.specs.Ranges.{each_step, is_within}
use Rattle.outcome_cells.specs.declared.cells.Cells.{Cells}
use Rattle.outcome_cells.specs.Shows.{Shows}
use Rattle.member_choices.specs.Folds.{items_in}
use Rattle.expr_rewriter.specs.declared.cell_env.CellEnv.{CellEnv}
use Rattle.expr_rewriter.specs.declared.settings.Setting.TheVariants.{Fold}
use Rattle.expr_rewriter.specs.Environments.{Fits}
use Rattle.expr_rewriter.specs.Operating.{AreParts}
use Rattle.expr_rewriter.specs.Rewriting.{CanRewrite, HasTreeSort}
use Rattle.expr_rewriter.specs.inner.Parts.{PartsShow}
use Rattle.expr_rewriter.specs.inner.Settings.{setting_of}

-- the body is the first child, and what is evaluated once stands behind it
abbrev pub fold_body : Ker → Option Ker
fold_body k = slice_get (out-Ker k).args 0

abbrev pub fold_parts : Ker → List Ker
fold_parts k = drop 1 (out-Ker k).args

-- what a body gives of the value so far and of an item, and whether its ranges then lie within their bounds
abbrev pub step_val : ℕ → Ker → List ℕ → Scope → State → State → Value → Value → Outcome
step_val w body xs sc s t v u = ker_val (Some w) body (bind (names_of xs) (v ∷ u ∷ []) sc) s t

abbrev pub step_lies : ℕ → Ker → List ℕ → Scope → State → State → Value → Value → Bool
step_lies w body xs sc s t v u = is_within (Some w) body (bind (names_of xs) (v ∷ u ∷ []) sc) s t

-- where the first cells show an outcome, the cells show the fold over the items that begins with it, if the ranges of
-- the steps that are evaluated lie within their bounds
abbrev pub FoldShows : Arena → Arena → List Bool → Ker → List ℕ → Scope → State → State → Cells → List Value →
    Cells → Type 0
FoldShows c d a body xs sc s t first items r =
    (o : Outcome) → Shows c a first o →
    ((v : Value) → o ≡ Val v →
    each_step (step_val c.width body xs sc s t) (step_lies c.width body xs sc s t) items v ≡ true) →
    Shows d a r (with_value o (folded (step_val c.width body xs sc s t) items))

-- a fold that can be rewritten, with cells of its first value and of its sequence
pub record CanStep (b : Build) (env : CellEnv) (k : Ker) (first seq : Cells) : Type 0 where
  pub can : CanRewrite b k env
  pub fold : setting_of (out-Ker k).op ≡ Fold
  pub parts : AreParts b (fold_parts k) (first ∷ seq ∷ [])

-- under each satisfying assignment the cells show the fold over these items
pub record FoldsOver (items : List Bool → List Value) (old new : Build) (env : CellEnv) (k : Ker)
    (first r : Cells) : Type 0 where
  pub sort : HasTreeSort new k r
  pub shows : (a : List Bool) → Satisfies a new.formula → (sc : Scope) (s t : State) → Fits new.arena a env sc s t →
      (body : Ker) → fold_body k ≡ Some body →
      FoldShows old.arena new.arena a body (out-Ker k).binds sc s t first (items a) r

-- the items of a sequence
abbrev pub items_of_cell : Arena → Cells → List Bool → List Value
items_of_cell c x a = items_in (decode c a x.cell)

-- a sound fold with cells of its first value, of its sequence and of all its steps
pub record CanFoldNode (b : Build) (k : Ker) (first seq own : Cells) : Type 0 where
  pub names : List Kind
  pub context : Context
  pub sound : IsTrue (sound names k context false)
  pub fold : setting_of (out-Ker k).op ≡ Fold
  pub parts : AreParts b (fold_parts k) (first ∷ seq ∷ [])
  pub sort : HasTreeSort b k own

-- under each satisfying assignment the cells show the node, where those of its parts and of the steps show theirs
pub record FoldsNode (old new : Build) (k : Ker) (first seq own r : Cells) : Type 0 where
  pub shows : (a : List Bool) → Satisfies a new.formula → (sc : Scope) (s t : State) →
      IsTrue (is_within (Some old.arena.width) k sc s t) →
      PartsShow old.arena a sc s t (fold_parts k) (first ∷ seq ∷ []) →
      ((body : Ker) → fold_body k ≡ Some body →
      FoldShows old.arena old.arena a body (out-Ker k).binds sc s t first (items_of_cell old.arena seq a) own) →
      Shows new.arena a r (ker_val (Some old.arena.width) k sc s t)
