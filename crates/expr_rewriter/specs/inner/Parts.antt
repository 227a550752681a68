-- The cells of a node's children, and what is made of them.
use Rattle.std.specs.Prelude.{◌≡◌, Bool, false, IsTrue, List, [], ◌∷◌, All, Some}
use Rattle.sat_formula.specs.Formula.{Satisfies}
use Rattle.tla_meaning.specs.declared.job.State.{State}
use Rattle.tla_meaning.specs.Scopes.{Scope}
use Rattle.cell_arena.specs.declared.build.Build.{Build}
use Rattle.cell_arena.specs.Cells.{Cells as Arena}
use Rattle.kernel_trees.specs.declared.kernel.Ker.{Ker, out-Ker}
use Rattle.kernel_trees.specs.Sound.{Context, sound}
use Rattle.kernel_trees.specs.Trees.{ker_val}
use Rattle.kernel_trees.specs.TypeKinds.{Kind}
use Rattle.kernel_ranges.specs.Ranges.{is_within}
use Rattle.outcome_cells.specs.declared.cells.Cells.{Cells}
use Rattle.outcome_cells.specs.Shows.{Shows}
use Rattle.typed_cells.specs.Known.{IsTextAmong}
use Rattle.expr_rewriter.specs.declared.cell_env.CellEnv.{CellEnv}
use Rattle.expr_rewriter.specs.Operating.{AreParts, operands}
use Rattle.expr_rewriter.specs.Rewriting.{CanRewrite, HasTreeSort, Rewrites, texts_in}
use Rattle.expr_rewriter.specs.declared.settings.Setting.TheVariants.{Level}
use Rattle.expr_rewriter.specs.inner.Settings.{setting_of}

-- ---- trees

-- the cells have the sort of the tree, and show what it gives
pub record IsTree (b : Build) (k : Ker) (env : CellEnv) (x : Cells) : Type 0 where
  pub sort : HasTreeSort b k x
  pub rewrites : Rewrites b k env x

-- cells for each of the trees
abbrev pub AreTrees : Build → CellEnv → List Ker → List Cells → Type 0
AreTrees b env [] [] = Unit {0}
AreTrees b env [] (x ∷ xs) = ⊥
AreTrees b env (k ∷ ks) [] = ⊥
AreTrees b env (k ∷ ks) (x ∷ xs) = IsTree b k env x × AreTrees b env ks xs

-- each of the trees can be rewritten
abbrev pub CanRewriteAll : Build → CellEnv → List Ker → Type 0
CanRewriteAll b env [] = Unit {0}
CanRewriteAll b env (k ∷ ks) = CanRewrite b k env × CanRewriteAll b env ks

-- ---- a node whose children stand in its setting

-- cells of the children that are evaluated, each of its sort
pub record CanJoin (b : Build) (k : Ker) (xs : List Cells) : Type 0 where
  pub names : List Kind
  pub context : Context
  pub sound : IsTrue (sound names k context false)
  pub level : setting_of (out-Ker k).op ≡ Level
  pub texts : All (IsTextAmong b.arena.texts) ([] ∷ texts_in k)
  pub parts : AreParts b (operands k) xs

-- each tree has cells, which show it where its ranges lie within their bounds
abbrev pub PartsShow : Arena → List Bool → Scope → State → State → List Ker → List Cells → Type 0
PartsShow c a sc s t [] [] = Unit {0}
PartsShow c a sc s t [] (x ∷ xs) = ⊥
PartsShow c a sc s t (k ∷ ks) [] = ⊥
PartsShow c a sc s t (k ∷ ks) (x ∷ xs) =
    (IsTrue (is_within (Some c.width) k sc s t) → Shows c a x (ker_val (Some c.width) k sc s t))
    × PartsShow c a sc s t ks xs

-- under each satisfying assignment, in whatever scope and states the parts show their trees, the cells show what the
-- node gives, where its ranges lie within their bounds
pub record Joins (old new : Build) (k : Ker) (xs : List Cells) (r : Cells) : Type 0 where
  pub shows : (a : List Bool) → Satisfies a new.formula → (sc : Scope) (s t : State) →
      IsTrue (is_within (Some old.arena.width) k sc s t) → PartsShow old.arena a sc s t (operands k) xs →
      Shows new.arena a r (ker_val (Some old.arena.width) k sc s t)
