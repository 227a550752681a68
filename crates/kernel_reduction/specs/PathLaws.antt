-- What the reduction keeps of an action, as laws: its effect, and its paths. Source: Konnov, Kukovec and Tran, "TLA+
-- Model Checking Made Symbolic", OOPSLA 2019, on the reduction to KerA+ and on symbolic transitions.
use Rattle.std.specs.Prelude.{◌≡◌, ℕ, IsTrue, Option, Some}
use Rattle.tla_meaning.specs.declared.actions.Assignable.{Assignable}
use Rattle.tla_meaning.specs.declared.expr.Expr.{Expr}
use Rattle.tla_meaning.specs.declared.place.Place.{Place}
use Rattle.tla_meaning.specs.Actions.{counts}
use Rattle.tla_meaning.specs.Numbers.{Width}
use Rattle.kernel_trees.specs.declared.kernel.Ker.{Ker}
use Rattle.kernel_trees.specs.Assignments.{reads_at}
use Rattle.kernel_trees.specs.Paths.{Marks, marks_below}
use Rattle.kernel_reduction.specs.JobPaths.{SamePaths, TypedTree, tree_names_below, tree_reads}
use Rattle.kernel_reduction.specs.Reduction.{KeepsAction, Numbering, is_wide}
use Rattle.kernel_reduction.specs.Builds.{Builds}

-- what is built in an action position has the effect of its expression there
abbrev pub KeepsActions : Width → Assignable → Numbering → Expr → Ker → Type 0
KeepsActions w m ρ e k = IsTrue (is_wide w) → Builds (Some m) ρ e k → KeepsAction w m ρ e k

-- what is built reads the names that its expression reads, at the same places
abbrev pub KeepsReads : Marks → Option Assignable → Numbering → Expr → Ker → ℕ → Place → Type 0
KeepsReads m i ρ e k n p = Builds i ρ e k → tree_reads m e n p ≡ reads_at m k n p

-- the same is told of its paths: by all names that may be assigned, and by those of the first n, if it reads no others
abbrev pub KeepsPaths : Assignable → Numbering → TypedTree → Ker → Type 0
KeepsPaths m ρ t k = Builds (Some m) ρ t.tree k → SamePaths (counts m) t k

abbrev pub KeepsPathsBelow : ℕ → Assignable → Numbering → TypedTree → Ker → Type 0
KeepsPathsBelow n m ρ t k =
    IsTrue (tree_names_below n t.tree) → Builds (Some m) ρ t.tree k → SamePaths (marks_below n m) t k
