-- The laws of what the reduction keeps of an action.
use Rattle.std.proofs.Common.{◌≡◌, ℕ, Bool, true, false, not, ◌&&◌, IsTrue, true≢false, List, [], ◌∷◌, refl, sym, ◌∙◌, ap, subst, Option, Some, None}
use Rattle.tla_meaning.specs.declared.actions.Assignable.{Assignable}
use Rattle.tla_meaning.specs.declared.expr.Expr.{Expr}
use Rattle.tla_meaning.specs.declared.place.Place.{Place}
use Rattle.tla_meaning.specs.Actions.{counts}
use Rattle.tla_meaning.specs.Numbers.{Width}
use Rattle.kernel_trees.specs.declared.kernel.Ker.{Ker}
use Rattle.kernel_trees.specs.Paths.{Marks, Step, marks_below, only_below, ways}
use Rattle.kernel_trees.specs.Ways.{Way}
use Rattle.kernel_trees.proofs.Marking.{SameMarks}
use Rattle.kernel_reduction.specs.JobPaths.{JobStep, TypedTree, has_name, job_ways, outside}
use Rattle.kernel_reduction.specs.PathLaws.{KeepsActions, KeepsPaths, KeepsPathsBelow, KeepsReads}
use Rattle.kernel_reduction.specs.Reduction.{Numbering}
use Rattle.kernel_reduction.specs.Builds.{Builds}
use Rattle.kernel_reduction.specs.inner.SameWays.{Pairs, SameWays}
use Rattle.kernel_reduction.specs.inner.Steps.{SameStep}
use Rattle.kernel_reduction.proofs.ActsKept.{tree_acts}
use Rattle.kernel_reduction.proofs.Keeping.{keeps}
use Rattle.kernel_reduction.proofs.KernelNames.{is_read, reads_has}
use Rattle.kernel_reduction.proofs.MarksBelow.{same_job_ways, same_kernel_ways}
use Rattle.kernel_reduction.proofs.NamesKept.{names_kept}
use Rattle.kernel_reduction.proofs.Roots.{tree_root}
use Rattle.kernel_reduction.proofs.StepsTold.{step_told}
use Rattle.kernel_reduction.proofs.Telling.{SameTold, paths_told}
use Rattle.kernel_reduction.proofs.WaysKept.{tree_ways}

pub keeps_actions : (w : Width) (m : Assignable) (ρ : Numbering) (e : Expr) (k : Ker) → KeepsActions w m ρ e k
keeps_actions w m ρ e k wide h = tree_acts w m (λ ρ e k b. keeps w wide None ρ e k b tt) h

pub keeps_reads : (m : Marks) (i : Option Assignable) (ρ : Numbering) (e : Expr) (k : Ker) (n : ℕ) (p : Place) → KeepsReads m i ρ e k n p
keeps_reads m i ρ e k n p h = names_kept (is_read m n p) h ∙ sym (reads_has m k n p)

-- the paths of its expression, step by step
keeps_steps : (m : Assignable) (ρ : Numbering) (t : TypedTree) (k : Ker) → Builds (Some m) ρ t.tree k → SameWays SameStep (job_ways (counts m) t) (ways (counts m) k)
keeps_steps m ρ t k h = tree_ways m h t.around t.kinds

-- steps that are built tell the same
all_told : (m : Marks) (xs : List JobStep) (zs : List Step) → Pairs SameStep xs zs → Pairs (SameTold m) xs zs
all_told m [] [] h = tt
all_told m [] (z ∷ zs) h = absurd h
all_told m (x ∷ xs) [] h = absurd h
all_told m (x ∷ xs) (z ∷ zs) h = (step_told m h.0, all_told m xs zs h.1)

ways_told : (m : Marks) (ys : List (Way JobStep)) (zs : List (Way Step)) → SameWays SameStep ys zs → SameWays (SameTold m) ys zs
ways_told m [] [] h = tt
ways_told m [] (z ∷ zs) h = absurd h
ways_told m (y ∷ ys) [] h = absurd h
ways_told m (y ∷ ys) (z ∷ zs) h = (record { taken = h.0.taken; steps = all_told m y.steps z.steps h.0.steps }, ways_told m ys zs h.1)

pub keeps_paths : (m : Assignable) (ρ : Numbering) (t : TypedTree) (k : Ker) → KeepsPaths m ρ t k
keeps_paths m ρ t k h =
    paths_told (counts m) t.tree k (job_ways (counts m) t) (ways (counts m) k) (sym (tree_root h).place)
    (ways_told (counts m) (job_ways (counts m) t) (ways (counts m) k) (keeps_steps m ρ t k h))

none_outside : (b : Bool) → IsTrue (not b) → b ≡ false
none_outside true h = absurd (true≢false (sym h))
none_outside false h = refl

same_below : (n : ℕ) (m : Marks) → SameMarks n m (only_below n m)
same_below n m i primed h = sym (ap (λ b. b && m i primed) h)

pub keeps_paths_below : (n : ℕ) (m : Assignable) (ρ : Numbering) (t : TypedTree) (k : Ker) → KeepsPathsBelow n m ρ t k
keeps_paths_below n m ρ t k q h =
    let b : has_name (outside n) t.tree ≡ false = none_outside (has_name (outside n) t.tree) q in
    let l : Marks = marks_below n m in
    paths_told l t.tree k (job_ways l t) (ways l k) (sym (tree_root h).place)
    (ways_told l (job_ways l t) (ways l k)
    (subst (λ ys. SameWays SameStep ys (ways l k)) (same_job_ways n (counts m) l (same_below n (counts m)) t b)
    (subst (SameWays SameStep (job_ways (counts m) t)) (same_kernel_ways n (counts m) l (same_below n (counts m)) k (sym (names_kept (outside n) h) ∙ b))
    (keeps_steps m ρ t k h))))
