-- What a kernel tree is as a form over cells, where it stands on the right of a membership or an inclusion. Source:
-- Specifying Systems, section 16.1, for forms of sets; Konnov, Kukovec and Tran, "TLA+ Model Checking Made Symbolic",
-- OOPSLA 2019, section 5, for the rewriting of expressions to cells.
use Rattle.std.specs.Prelude.{◌≡◌, Bool, true, IsTrue, List, [], ◌∷◌, All, Some}
use Rattle.sat_formula.specs.Formula.{Satisfies}
use Rattle.tla_meaning.specs.declared.job.State.{State}
use Rattle.tla_meaning.specs.Scopes.{Scope}
use Rattle.cell_arena.specs.declared.build.Build.{Build}
use Rattle.kernel_trees.specs.declared.kernel.Ker.{Ker}
use Rattle.kernel_trees.specs.Sound.{Context, kind_at, sound}
use Rattle.kernel_trees.specs.Trees.{ker_form}
use Rattle.kernel_trees.specs.TypeKinds.{Kind, Set}
use Rattle.kernel_ranges.specs.Ranges.{is_within}
use Rattle.form_cells.specs.declared.form.FormCells.{FormCells}
use Rattle.form_cells.specs.FormSorts.{AreForms}
use Rattle.form_cells.specs.FormValues.{ShowsForm}
use Rattle.typed_cells.specs.KindSorts.{sort_of}
use Rattle.typed_cells.specs.Known.{IsTextAmong}
use Rattle.expr_rewriter.specs.declared.cell_env.CellEnv.{CellEnv}
use Rattle.expr_rewriter.specs.Environments.{Fits, HoldsEnv}
use Rattle.expr_rewriter.specs.Rewriting.{texts_in}

-- a tree that is sound in a form position, cells for what it reads, and texts that are the build's, the empty one among
-- them
pub record CanRewriteForm (b : Build) (k : Ker) (env : CellEnv) : Type 0 where
  pub names : List Kind
  pub context : Context
  pub sound : IsTrue (sound names k context true)
  pub holds : HoldsEnv b.arena.kinds names context k env
  pub texts : All (IsTextAmong b.arena.texts) ([] ∷ texts_in k)

-- under each satisfying assignment, in every scope and at every two states in which names have the values of their
-- cells, this shows the form of the tree, where each range that is evaluated lies within its bounds
pub record RewritesForm (b : Build) (k : Ker) (env : CellEnv) (x : FormCells) : Type 0 where
  pub shows : (a : List Bool) → Satisfies a b.formula → (sc : Scope) (s t : State) → Fits b.arena a env sc s t →
      IsTrue (is_within (Some b.arena.width) k sc s t) → ShowsForm b.arena a x (ker_form (Some b.arena.width) k sc s t)

-- the form has members of the sort that those of the tree have, also where there is a fault
abbrev pub HasFormSort : Build → Ker → FormCells → Type 0
HasFormSort b k x = (a : Kind) → kind_at k ≡ Some (Set a) → AreForms b (sort_of a) x
