-- A job's kernel has the shapes and the refusals of the job's own typed trees, at each level.
use Rattle.std.proofs.Common.{◌≡◌, ℕ, zero, suc, ◌≤◌, Bool, true, false, ◌&&◌, IsTrue, ℤ, List, [], ◌∷◌, map, length, Option, Some, None, refl, sym, ◌∙◌, ap, ap₂, subst, arith}
use Rattle.std.specs.Prelude.{◌==◌, nat_lt}
use Rattle.std.specs.List.{list_all}
use Rattle.std.proofs.lemmas.List.{length-map}
use Rattle.tla_meaning.specs.declared.actions.Assignable.{Assignable}
use Rattle.tla_meaning.specs.declared.expr.Decl.{Decl}
use Rattle.tla_meaning.specs.declared.expr.Expr.{Expr}
use Rattle.tla_meaning.specs.declared.job.Job.{Job}
use Rattle.tla_meaning.specs.Actions.{counts}
use Rattle.tla_meaning.specs.Executions.{in_cinit, in_init}
use Rattle.tla_meaning.specs.Executions as executions
use Rattle.tla_meaning.proofs.Views.{and_left, and_right, false≢true}
use Rattle.snowcat_rows.specs.declared.types.Ty.{Ty}
use Rattle.snowcat_rows.specs.declared.types.Typed.{Typed}
use Rattle.snowcat_rows.specs.TypeTexts.{are_distinct}
use Rattle.snowcat_types.specs.Answers.{outside_of, types_of_names}
use Rattle.snowcat_types.specs.Systems.{parts_of}
use Rattle.kernel_trees.specs.declared.kernel.Ker.{Ker}
use Rattle.kernel_trees.specs.declared.path.Assigned.{Assigned}
use Rattle.kernel_trees.specs.declared.path.KerPath.{KerPath}
use Rattle.kernel_trees.specs.declared.system.KerJob.{KerJob}
use Rattle.kernel_trees.specs.Assignments.{marked}
use Rattle.kernel_trees.specs.Paths.{Marks, Step, marks_below, only_below, path_of, paths, step_of, ways}
use Rattle.kernel_trees.specs.Sound.{passes, sound_path}
use Rattle.kernel_trees.specs.Systems.{constants_first, kinds_of_names, parts, sound_part}
use Rattle.kernel_trees.specs.TypeKinds.{Kind, Truth}
use Rattle.kernel_trees.specs.Ways.{Way}
use Rattle.kernel_trees.proofs.Marking.{SameMarks}
use Rattle.kernel_trees.proofs.SoundPaths.{Sound, ways_are_sound}
use Rattle.kernel_trees.proofs.Trees.{Each}
use Rattle.kernel_shapes.specs.Counts.{either_rank, first_rank}
use Rattle.kernel_shapes.specs.Kernel.{ker_sized}
use Rattle.kernel_shapes.specs.Levels.{Assigns, Parts, Path, in_next, in_state, invariant_numbers}
use Rattle.kernel_shapes.specs.Sized.{Extent, walked}
use Rattle.kernel_shapes.specs.Systems.{sized_path, sized_paths}
use Rattle.kernel_shapes.specs.TypedExtents.{OfTypes}
use Rattle.kernel_shapes.proofs.Refusals.{rank_append}
use Rattle.kernel_reduction.specs.JobParts.{job_parts, part_kinds, sized_invariants, sized_job_path, sized_job_paths, typed_part, typed_sized}
use Rattle.kernel_reduction.specs.JobPaths.{JobStep, TypedTree, job_path_of, job_ways}
use Rattle.kernel_reduction.specs.JobSizes.{IsSoundKernelOf, KeepsJobRefusals, KeepsJobShapes, KeepsTypedRefusals, kernel_parts}
use Rattle.kernel_reduction.specs.SoundLaws.{are_kinded, has_kind, is_whole_job, positions}
use Rattle.kernel_reduction.specs.WellFormed.{are_apart}
use Rattle.kernel_reduction.specs.inner.SameWays.{Pairs, SameWay, SameWays}
use Rattle.kernel_reduction.proofs.Filled.{kept_there}
use Rattle.kernel_reduction.proofs.Gists.{Gist}
use Rattle.kernel_reduction.proofs.MarksBelow.{same_job_ways, same_kernel_ways}
use Rattle.kernel_reduction.proofs.SizedLevels.{SameParts, SamePaths, all_refused_same, all_shapes_same, all_typed_same}
use Rattle.kernel_reduction.proofs.SizedParts.{AllFit, PartFits, all_fit, no_kernel_outside, no_name_outside}
use Rattle.kernel_reduction.proofs.SizedPaths.{SamePath, paths_same}
use Rattle.kernel_reduction.proofs.SizedSteps.{KeptTree, SizedStep, when_walked}
use Rattle.kernel_reduction.proofs.SizedTrees.{built_kept}
use Rattle.kernel_reduction.proofs.SizedWays.{R, sized_ways}
use Rattle.kernel_reduction.proofs.SoundJobs.{long_there}

module _ (w : ℕ) (wide : 2 ≤ w) (names : List Kind) (t : Typed) where
  -- ---- a part that is an action

  module _ (how : Assigns) (m : Assignable) (n : ℕ) (many : n ≡ length names) where
    abbrev L : Marks
    L = marks_below n m

    all_sized : (ys : List JobStep) (zs : List Step) → Pairs (R w wide m L) ys zs → Pairs (SizedStep w L) ys zs
    all_sized [] [] h = tt
    all_sized [] (z ∷ zs) h = absurd h
    all_sized (y ∷ ys) [] h = absurd h
    all_sized (y ∷ ys) (z ∷ zs) h = (h.0.1, all_sized ys zs h.1)

    -- paths with their assignments
    abbrev job_steps : Expr → List (Way JobStep) → List Path
    job_steps e ys = map (sized_job_path w L) (map (job_path_of e) ys)

    abbrev assigned : KerPath → Assigned
    assigned x = record { place = x.place; steps = marked L [] x.steps }

    ways_same : (e : Expr) (k : Ker) (g : Extent) → OfTypes names [] g → (ys : List (Way JobStep)) (zs : List (Way Step)) → SameWays (R w wide m L) ys zs → Each (Sound names []) zs →
        Pairs (λ p q. SamePath how names p q g) (job_steps e ys) (sized_paths w (map assigned (map (path_of k) zs)))
    ways_same e k g r [] [] h s = tt
    ways_same e k g r [] (z ∷ zs) h s = absurd h
    ways_same e k g r (y ∷ ys) [] h s = absurd h
    ways_same e k g r (y ∷ ys) (z ∷ zs) h s =
        (paths_same how w names L y.steps z.steps (all_sized y.steps z.steps h.0.steps) [] [] g r s.0, ways_same e k g r ys zs h.1 s.1)

    same_below : SameMarks (length names) (counts m) L
    same_below i primed h = sym (ap (λ j. nat_lt i j && counts m i primed) many ∙ ap (λ b. b && counts m i primed) h)

    pub action_same : (j : ℕ) (e : Expr) (k : Ker) → PartFits names t j (Some m) e k →
        SamePaths names how (sized_job_paths w L (typed_part t j e)) (sized_paths w (map assigned (paths L k)))
    action_same j e k f g r =
        let self : TypedTree = typed_part t j e in
        ways_same e k g r (job_ways L self) (ways L k)
        (subst (λ ys. SameWays (R w wide m L) ys (ways L k)) (same_job_ways (length names) (counts m) L same_below self (no_name_outside f))
        (subst (SameWays (R w wide m L) (job_ways (counts m) self)) (same_kernel_ways (length names) (counts m) L same_below k (no_kernel_outside names k f.sound))
        (sized_ways w wide m L f.built (part_kinds t j) f.fits f.levels f.apart [] refl)))
        (ways_are_sound names L k [] f.truth f.scoped)

  -- ---- a part that is a truth value

  value_same : (j : ℕ) (e : Expr) (k : Ker) → PartFits names t j None e k → (g : Extent) → OfTypes names [] g →
      first_rank ((typed_sized w (typed_part t j e) g).counts walked) ≡ first_rank ((ker_sized w k g).counts walked)
  value_same j e k f g r =
      ap (λ (a : Gist). a.rank walked)
      (kept_there w names [] g r (λ a. a) (typed_part t j e) k false Truth (built_kept w wide None [] e k f.built tt (part_kinds t j) f.fits f.apart [] refl) f.sound f.truth)

  tests_same : (j : ℕ) (vs : List (List ℕ × Expr)) (ks : List Ker) → AllFit names t j (map (λ v. None) vs) (map (λ v. v.1) vs) ks → (g : Extent) → OfTypes names [] g →
      first_rank (invariant_numbers (sized_invariants w t j (map (λ v. v.1) vs)) g) ≡ first_rank (invariant_numbers (map (ker_sized w) ks) g)
  tests_same j [] [] f g r = refl
  tests_same j [] (k ∷ ks) f g r = absurd f
  tests_same j (v ∷ vs) [] f g r = absurd f
  tests_same j (v ∷ vs) (k ∷ ks) f g r =
      rank_append ((typed_sized w (typed_part t j v.1) g).counts walked) (invariant_numbers (sized_invariants w t (suc j) (map (λ v. v.1) vs)) g)
      ∙ ap₂ either_rank (value_same j v.1 k f.0 g r) (tests_same (suc j) vs ks f.1 g r)
      ∙ sym (rank_append ((ker_sized w k g).counts walked) (invariant_numbers (map (ker_sized w) ks) g))

-- ---- a job

passed : {X : Type 0} (test : X → Bool) (o : Option X) → passes test o ≡ true → (x : X) × (o ≡ Some x) × (test x ≡ true)
passed test None h = absurd (false≢true h)
passed test (Some x) h = (x, refl, h)

same_number : (m n : ℕ) → (m == n) ≡ true → m ≡ n
same_number m n h = grind (arith, h)

module _ (w : ℕ) (wide : 2 ≤ w) (job : Job) (t : Typed) (k : KerJob) (h : IsSoundKernelOf job t k) where
  abbrev fixed_names : List Bool
  fixed_names = map (λ (d : Decl). d.constant) job.names

  abbrev texts_and_names : Bool
  texts_and_names = (length k.names == length k.fixed && constants_first k.fixed) && are_distinct k.texts

  abbrev all_parts : List Kind → Bool
  all_parts names = list_all (sound_part names k.texts) (parts k)

  some_names : (names : List Kind) × (kinds_of_names k ≡ Some names) × (all_parts names ≡ true)
  some_names = passed all_parts (kinds_of_names k) (and_right texts_and_names (passes all_parts (kinds_of_names k)) h.sound)

  as_many_types : length k.names ≡ length k.fixed
  as_many_types =
      let one : Bool = length k.names == length k.fixed in
      same_number (length k.names) (length k.fixed)
      (and_left one (constants_first k.fixed)
      (and_left (one && constants_first k.fixed) (are_distinct k.texts) (and_left texts_and_names (passes all_parts (kinds_of_names k)) h.sound)))

  module _ (names : List Kind) (q : kinds_of_names k ≡ Some names) where
    as_many_kinds : length k.fixed ≡ length names
    as_many_kinds = sym as_many_types ∙ long_there k.names names q

    as_many_names : length job.names ≡ length names
    as_many_names = sym (length-map job.names (λ (d : Decl). d.constant)) ∙ ap length (sym h.kernel.fixed) ∙ as_many_kinds

    parts_fit : AllFit names t 0 (positions job) (parts_of job) (parts k)
    parts_fit =
        let wide : Bool = is_whole_job (length t.names) job in
        let many : Bool = length t.names == length job.names in
        let behind : Bool = constants_first fixed_names in
        let all : Bool = list_all (list_all has_kind) t.parts in
        let formed = and_left ((wide && are_kinded t) && (many && behind)) (are_apart job) h.kernel.well_formed in
        let kinded = and_right wide (are_kinded t) (and_left (wide && are_kinded t) (many && behind) formed) in
        all_fit names k.texts t (outside_of h.rows.annotations (types_of_names t)) 0 (positions job) (parts_of job) t.parts (parts k) refl h.kernel.parts h.rows.parts
        (and_right (list_all has_kind t.names) all kinded) (and_right ((wide && are_kinded t) && (many && behind)) (are_apart job) h.kernel.well_formed)
        (sym (ap (passes all_parts) q) ∙ and_right texts_and_names (passes all_parts (kinds_of_names k)) h.sound)

    sized_parts : SameParts names (job_parts w job t) (kernel_parts w job k)
    sized_parts = record {
      fixed = sym h.kernel.fixed;
      many = as_many_kinds;
      constants = action_same w wide names t in_state (in_cinit job) (length job.names) as_many_names 0 job.cinit k.cinit parts_fit.0;
      assume = λ g r e. value_same w wide names t 1 job.assume k.assume parts_fit.1.0 g r;
      start = action_same w wide names t in_state (in_init job) (length job.names) as_many_names 2 job.init k.init parts_fit.1.1.0;
      next = action_same w wide names t in_next (executions.in_next job) (length job.names) as_many_names 3 job.next k.next parts_fit.1.1.1.0;
      invariants = λ g r e. tests_same w wide names t 4 job.invs k.invs parts_fit.1.1.1.1 g r;
    }

pub keeps_job_shapes : (w : ℕ) (job : Job) (t : Typed) (k : KerJob) (n : ℕ) → KeepsJobShapes w job t k n
keeps_job_shapes w job t k n wide h =
    let z = some_names w wide job t k h in
    all_shapes_same z.0 (job_parts w job t) (kernel_parts w job k) (sized_parts w wide job t k h z.0 z.1) n

pub keeps_job_refusals : (w : ℕ) (job : Job) (t : Typed) (k : KerJob) (n : ℕ) → KeepsJobRefusals w job t k n
keeps_job_refusals w job t k n wide h =
    let z = some_names w wide job t k h in
    all_refused_same z.0 (job_parts w job t) (kernel_parts w job k) (sized_parts w wide job t k h z.0 z.1) n

pub keeps_typed_refusals : (w : ℕ) (job : Job) (t : Typed) (k : KerJob) (low high : ℤ) (size : ℕ) (names : List Kind) → KeepsTypedRefusals w job t k low high size names
keeps_typed_refusals w job t k low high size names wide h q =
    all_typed_same names (job_parts w job t) (kernel_parts w job k) (sized_parts w wide job t k h names q) low high size
