-- The steps of a job's path and of its kernel's: each tree of the one is built as that of the other.
use Rattle.std.specs.Prelude.{◌≡◌, ℕ, Bool, true, false, List, [], map, Option, None}
use Rattle.tla_meaning.specs.declared.actions.Assignable.{Assignable}
use Rattle.tla_meaning.specs.declared.expr.Expr.{Expr, out-Expr}
use Rattle.tla_meaning.specs.declared.op.Op.{Op}
use Rattle.tla_meaning.specs.declared.op.Op.TheVariants as op
use Rattle.tla_meaning.specs.declared.place.Place.{Place}
use Rattle.snowcat_rows.specs.declared.types.Ty.{Ty}
use Rattle.kernel_trees.specs.declared.kernel.Ker.{Ker}
use Rattle.kernel_trees.specs.declared.kernel.KerOp.TheVariants as ker
use Rattle.kernel_trees.specs.Paths.{Step, Holds, Branch, Choice, sets}
use Rattle.kernel_reduction.specs.JobPaths.{JobStep, Operand, Guarded, Chosen, Unmatched, TypedTree, job_sets}
use Rattle.kernel_reduction.specs.Reduction.{Numbering}
use Rattle.kernel_reduction.specs.Rows.{node, negation, twice_negated, guard_of}
use Rattle.kernel_reduction.specs.Builds.{Builds, BuildsEach}

abbrev pub is_note : Op → Bool
is_note (op.Noted x) = true
is_note o = false

abbrev pub trees : List TypedTree → List Expr
trees ts = map (λ t. t.tree) ts

-- a guard of an IF may be negated twice. A guard of a CASE is negated twice where it is to be TRUE, and once where it is
-- to be FALSE.
pub data SameStep : JobStep → Step → Type 0 where
  same_operand : (i : Option Assignable) (ρ : Numbering) (t : TypedTree) (k : Ker)
      → is_note (out-Expr t.tree).op ≡ false → Builds i ρ t.tree k
      → SameStep (Operand t) (Holds k)
  same_guard : (ρ : Numbering) (p : Place) (t : TypedTree) (b : Bool) (a : Ty) (k : Ker)
      → Builds None ρ t.tree k
      → SameStep (Guarded p t b) (Branch p (guard_of p a k) b)
  guard_is_true : (ρ : Numbering) (p : Place) (t : TypedTree) (a : Ty) (k : Ker)
      → Builds None ρ t.tree k
      → SameStep (Guarded p t true) (Holds (twice_negated p a k))
  guard_is_false : (ρ : Numbering) (p : Place) (t : TypedTree) (a : Ty) (k : Ker)
      → Builds None ρ t.tree k
      → SameStep (Guarded p t false) (Holds (negation p a k))
  same_choice : (ρ : Numbering) (p : Place) (xs : List (List ℕ × TypedTree)) (zs : List (ℕ × Ker))
      → BuildsEach None ρ (trees (job_sets xs)) (sets zs)
      → SameStep (Chosen p xs) (Choice p zs)
  same_end : (p : Place) (a : Ty) → SameStep (Unmatched p) (Holds (node p a ker.NoCase []))
