-- The steps of a job's path and of its kernel's that make the same refusals and leave the same shapes.
use Rattle.std.proofs.Common.{◌≡◌, ℕ, suc, ◌+◌, Bool, List, [], ◌∷◌, length, Option, Some, None}
use Rattle.tla_meaning.specs.declared.place.Place.{Place}
use Rattle.kernel_trees.specs.declared.kernel.Ker.{Ker}
use Rattle.kernel_trees.specs.declared.path.AssignedStep.{AssignedStep}
use Rattle.kernel_trees.specs.declared.path.AssignedStep.TheVariants as mark
use Rattle.kernel_trees.specs.Assignments.{assignment}
use Rattle.kernel_trees.specs.Paths.{Marks, Step, Holds, Branch, Choice}
use Rattle.kernel_shapes.specs.Counts.{Rank}
use Rattle.kernel_shapes.specs.Sized.{Extent, walked}
use Rattle.kernel_reduction.specs.JobPaths.{JobAssigned, JobStep, Operand, Guarded, Chosen, Unmatched, Sets, SetsFrom, TypedTree, job_assignment}
use Rattle.kernel_reduction.proofs.Filled.{KeepsOf}
use Rattle.kernel_reduction.proofs.Gists.{Gist}
use Rattle.kernel_reduction.proofs.SizeLeaves.{walked_rank}

abbrev pub as_gist : Gist → Gist
as_gist a = a

abbrev pub when_walked : Gist → Option Rank
when_walked a = a.rank walked

-- a tree has the shape and the refusals of what is built of it
abbrev pub KeptTree : ℕ → TypedTree → Ker → Type 0
KeptTree w t k = KeepsOf w as_gist t k

-- a guard has its refusal where it is walked
abbrev pub KeptGuard : ℕ → TypedTree → Ker → Type 0
KeptGuard w t k = KeepsOf w when_walked t k

-- what is assigned is kept
pub data SameMark (w : ℕ) : Option (ℕ × JobAssigned) → Option (ℕ × AssignedStep) → Type 0 where
  neither : SameMark w None None
  both_equal : (i : ℕ) (t : TypedTree) (k : Ker) → KeptTree w t k → SameMark w (Some (i, Sets i t)) (Some (i, mark.Equals i k))
  both_among : (i : ℕ) (t : TypedTree) (k : Ker) → KeptTree w t k → SameMark w (Some (i, SetsFrom i t)) (Some (i, mark.Among i k))

-- the sets of a choice, the first n left out: a name has the number of names that are bound around the set and before it
abbrev pub KeptSets : ℕ → ℕ → List (List ℕ × TypedTree) → List (ℕ × Ker) → Type 0
KeptSets w n [] [] = Unit {0}
KeptSets w n [] (z ∷ zs) = ⊥
KeptSets w n (x ∷ xs) [] = ⊥
KeptSets w n (x ∷ xs) (z ∷ zs) = (z.0 ≡ n + length x.1.around) × (KeptTree w x.1 z.1 × KeptSets w (suc n) xs zs)

-- what a path assigns by these marks
abbrev pub AssignsNone : Marks → Ker → Type 0
AssignsNone m k = (before : List ℕ) → assignment m before k ≡ None

pub data SizedStep (w : ℕ) (m : Marks) : JobStep → Step → Type 0 where
  sized_operand : (t : TypedTree) (k : Ker)
      → KeptTree w t k → ((before : List ℕ) → SameMark w (job_assignment m before t) (assignment m before k))
      → SizedStep w m (Operand t) (Holds k)
  sized_branch : (p : Place) (t : TypedTree) (b : Bool) (k : Ker)
      → KeptGuard w t k → AssignsNone m k
      → SizedStep w m (Guarded p t b) (Branch p k b)
  sized_guard : (p : Place) (t : TypedTree) (b : Bool) (k : Ker)
      → KeptGuard w t k → AssignsNone m k
      → SizedStep w m (Guarded p t b) (Holds k)
  sized_choice : (p : Place) (xs : List (List ℕ × TypedTree)) (zs : List (ℕ × Ker))
      → KeptSets w 0 xs zs
      → SizedStep w m (Chosen p xs) (Choice p zs)
  sized_end : (p : Place) (k : Ker)
      → ((g : Extent) → walked_rank w k g ≡ None) → AssignsNone m k
      → SizedStep w m (Unmatched p) (Holds k)
