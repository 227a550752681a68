-- Paths whose steps tell the same are told the same.
use Rattle.std.proofs.Common.{◌≡◌, ℕ, true, false, List, [], ◌∷◌, map, refl, sym, ◌∙◌, ap, ap₂, Option, Some, None}
use Rattle.tla_meaning.specs.declared.expr.Expr.{Expr}
use Rattle.kernel_trees.specs.declared.kernel.Ker.{Ker, out-Ker}
use Rattle.kernel_trees.specs.declared.path.AssignedStep.{AssignedStep}
use Rattle.kernel_trees.specs.declared.path.AssignedStep.TheVariants as mark
use Rattle.kernel_trees.specs.declared.path.PathStep.{PathStep}
use Rattle.kernel_trees.specs.Ways.{Way, has_ended}
use Rattle.kernel_trees.specs.Paths.{Marks, Step, Holds, Branch, Choice, ends_at, path_of, place_or, step_of}
use Rattle.kernel_trees.specs.Assignments.{assignment, is_ended, marked, step_by}
use Rattle.kernel_reduction.specs.JobPaths.{JobStep, Operand, Guarded, Chosen, Unmatched, Asks, Picks, Stops, Told, ToldStep, and_before, assigned_or, ends_there, job_assignment, job_marked, job_path_of, root_place, told_kernel_path, told_kernel_step, told_path, told_step}
use Rattle.kernel_reduction.specs.inner.SameWays.{Pairs, SameWay, SameWays}
use Rattle.kernel_reduction.proofs.WayPairs.{same_ended}

module _ (m : Marks) where
  -- what is told of a step where these names are assigned, and the names that are assigned behind it
  abbrev pub job_tells : List ℕ → JobStep → ToldStep × List ℕ
  job_tells before (Operand t) =
      (told_step (assigned_or t (job_assignment m before t)), and_before (job_assignment m before t) before)
  job_tells before (Guarded p t b) = (told_step (Asks t), before)
  job_tells before (Chosen p ps) = (told_step (Picks ps), before)
  job_tells before (Unmatched p) = (told_step Stops, before)

  abbrev pub kernel_by : List ℕ → Ker → Option (ℕ × AssignedStep) → ToldStep × List ℕ
  kernel_by before k None = (told_kernel_step (mark.Guard k true), before)
  kernel_by before k (Some a) = (told_kernel_step a.1, a.0 ∷ before)

  abbrev pub kernel_tells : List ℕ → Step → ToldStep × List ℕ
  kernel_tells before (Holds k) = kernel_by before k (assignment m before k)
  kernel_tells before (Branch p k true) = kernel_by before k (assignment m before k)
  kernel_tells before (Branch p k false) = (told_kernel_step (mark.Guard k false), before)
  kernel_tells before (Choice p ps) = (told_kernel_step (mark.Pick ps), before)

  -- steps of which the same is told, and which end a path alike
  pub record SameTold (x : JobStep) (z : Step) : Type 0 where
    pub told : (before : List ℕ) → job_tells before x ≡ kernel_tells before z
    pub ends : ends_there x ≡ ends_at z
    pub ended : ends_there x ≡ is_ended (step_of z)

  abbrev kernel_told : List ℕ → List PathStep → List ToldStep
  kernel_told before zs = map told_kernel_step (marked m before zs)

  by_step : (before : List ℕ) (k : Ker) (zs : List PathStep) (o : Option (ℕ × AssignedStep)) →
      map told_kernel_step (step_by k before (λ names. marked m names zs) o)
      ≡ (kernel_by before k o).0 ∷ kernel_told (kernel_by before k o).1 zs
  by_step before k zs None = refl
  by_step before k zs (Some a) = refl

  one_told : (before : List ℕ) (z : Step) (zs : List PathStep) →
      kernel_told before (step_of z ∷ zs) ≡ (kernel_tells before z).0 ∷ kernel_told (kernel_tells before z).1 zs
  one_told before (Holds k) zs = by_step before k zs (assignment m before k)
  one_told before (Branch p k true) zs = by_step before k zs (assignment m before k)
  one_told before (Branch p k false) zs = refl
  one_told before (Choice p ps) zs = refl

  one_job_told : (before : List ℕ) (y : JobStep) (ys : List JobStep) →
      map told_step (job_marked m before (y ∷ ys)) ≡ (job_tells before y).0 ∷ map told_step (job_marked m (job_tells before y).1 ys)
  one_job_told before (Operand t) ys = refl
  one_job_told before (Guarded p t b) ys = refl
  one_job_told before (Chosen p ps) ys = refl
  one_job_told before (Unmatched p) ys = refl

  steps_told : (before : List ℕ) (ys : List JobStep) (zs : List Step) → Pairs SameTold ys zs →
      map told_step (job_marked m before ys) ≡ kernel_told before (map step_of zs)
  steps_told before [] [] h = refl
  steps_told before [] (z ∷ zs) h = absurd h
  steps_told before (y ∷ ys) [] h = absurd h
  steps_told before (y ∷ ys) (z ∷ zs) h =
      one_job_told before y ys
      ∙ (λ i. (h.0.told before i).0 ∷ map told_step (job_marked m (h.0.told before i).1 ys))
      ∙ ap (λ l. (kernel_tells before z).0 ∷ l) (steps_told (kernel_tells before z).1 ys zs h.1)
      ∙ sym (one_told before z (map step_of zs))

  ended_by : (zs : List Step) → has_ended is_ended (map step_of zs) ≡ has_ended (λ z. is_ended (step_of z)) zs
  ended_by [] = refl
  ended_by (x ∷ []) = refl
  ended_by (x ∷ y ∷ zs) = ended_by (y ∷ zs)

  pub path_told : (e : Expr) (k : Ker) (y : Way JobStep) (z : Way Step) → root_place e ≡ (out-Ker k).place → SameWay SameTold y z →
      told_path m (job_path_of e y) ≡ told_kernel_path m (path_of k z)
  path_told e k y z q h = λ i. record {
    place = place_or (q i) (h.taken i);
    ended = (same_ended SameTold ends_there (λ z. is_ended (step_of z)) (λ x z r. r.ended) y.steps z.steps h.steps ∙ sym (ended_by z.steps)) i;
    steps = steps_told [] y.steps z.steps h.steps i;
  }

  pub paths_told : (e : Expr) (k : Ker) (ys : List (Way JobStep)) (zs : List (Way Step)) → root_place e ≡ (out-Ker k).place → SameWays SameTold ys zs →
      map (told_path m) (map (job_path_of e) ys) ≡ map (told_kernel_path m) (map (path_of k) zs)
  paths_told e k [] [] q h = refl
  paths_told e k [] (z ∷ zs) q h = absurd h
  paths_told e k (y ∷ ys) [] q h = absurd h
  paths_told e k (y ∷ ys) (z ∷ zs) q h = ap₂ (λ (x : Told) (xs : List Told). x ∷ xs) (path_told e k y z q h.0) (paths_told e k ys zs q h.1)
