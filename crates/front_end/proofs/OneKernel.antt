-- Two kernels of one job, by whatever typings, have the same refusals by shapes: those of the job's own trees.
use Rattle.std.proofs.Common.{◌≡◌, ◌≤◌, ℕ, zero, suc, IsTrue, List, [], ◌∷◌, map, refl, ap, sym, ◌∙◌, arith, Option, Some, None}
use Rattle.std.specs.Prelude.{is_some}
use Rattle.std.specs.List.{list_all}
use Rattle.std.proofs.lemmas.Bool.{false≢true}
use Rattle.front_end.specs.Accepted.{AreAssigned, IsReducedJob, IsSystem, IsTypedJob}
use Rattle.front_end.proofs.Apart.{SameNumbers, SameRefusals}
use Rattle.kernel_reduction.proofs.KindsOf.{same_of}
use Rattle.kernel_reduction.proofs.SizedJobs.{keeps_job_refusals, keeps_typed_refusals}
use Rattle.kernel_reduction.specs.JobParts.{job_marks, job_parts, part_kinds, sized_invariants, sized_job_paths, typed_sized}
use Rattle.kernel_reduction.specs.JobSizes.{IsSoundKernelOf, kernel_system}
use Rattle.kernel_reduction.specs.Kernels.{IsKernelOf}
use Rattle.kernel_reduction.specs.SoundLaws.{has_kind}
use Rattle.kernel_shapes.specs.Kernel.{kind_or_truth}
use Rattle.kernel_shapes.specs.Levels.{Parts, refused, refused_typed}
use Rattle.kernel_shapes.specs.Rows.{nth}
use Rattle.kernel_shapes.specs.Sized.{Sizing}
use Rattle.kernel_shapes.specs.Systems.{system_parts}
use Rattle.kernel_shapes.specs.TypedStates.{typed_first}
use Rattle.kernel_shapes.specs.declared.bounds.Bounds.{Bounds}
use Rattle.kernel_trees.specs.ActionNames.{marks_of}
use Rattle.kernel_trees.specs.Assignments.{marked}
use Rattle.kernel_trees.specs.Systems.{kinds_of_names}
use Rattle.kernel_trees.specs.TypeKinds.{Kind, all_there, kind_of}
use Rattle.kernel_trees.specs.declared.action_kind.ActionKind.{ActionKind}
use Rattle.kernel_trees.specs.declared.action_kind.ActionKind.TheVariants.{Constants, Start, Step}
use Rattle.kernel_trees.specs.declared.path.Assigned.{Assigned}
use Rattle.kernel_trees.specs.declared.path.KerPath.{KerPath}
use Rattle.kernel_trees.specs.declared.system.KerJob.{KerJob}
use Rattle.kernel_trees.specs.declared.system.System.{System}
use Rattle.snowcat_rows.specs.Types.{mean}
use Rattle.snowcat_rows.specs.declared.types.Ty.{Ty}
use Rattle.snowcat_rows.specs.declared.types.Typed.{Typed}
use Rattle.snowcat_types.proofs.OneTyping.{one_typing}
use Rattle.snowcat_types.proofs.RowsMet.{typed_meets}
use Rattle.tla_meaning.proofs.Views.{and_left, and_right}
use Rattle.tla_meaning.specs.Executions.{in_cinit, in_init, in_next}
use Rattle.tla_meaning.specs.declared.expr.Decl.{Decl}
use Rattle.tla_meaning.specs.declared.expr.Expr.{Expr}
use Rattle.tla_meaning.specs.declared.job.Job.{Job}

-- ---- equal types have equal kinds

some_kind : (o : Option Kind) → IsTrue (is_some o) → (a : Kind) × (o ≡ Some a)
some_kind None h = absurd (false≢true h)
some_kind (Some a) h = (a, refl)

same_kind : (t u : Ty) → mean t ≡ mean u → IsTrue (has_kind t) → IsTrue (has_kind u) → kind_of t ≡ kind_of u
same_kind t u e h g =
    let a = some_kind (kind_of t) h in
    let b = some_kind (kind_of u) g in
    a.1 ∙ ap Some (same_of (mean t) a.0 b.0 (t, a.1, refl) (u, b.1, sym e)) ∙ sym b.1

first_is : {X : Type 0} (x y : X) (xs ys : List X) → x ∷ xs ≡ y ∷ ys → x ≡ y
first_is x y xs ys e = cc

rest_is : {X : Type 0} (x y : X) (xs ys : List X) → x ∷ xs ≡ y ∷ ys → xs ≡ ys
rest_is x y xs ys e = cc

same_kinds : (ts us : List Ty) → map mean ts ≡ map mean us → IsTrue (list_all has_kind ts) → IsTrue (list_all has_kind us)
    → map kind_of ts ≡ map kind_of us
same_kinds [] [] e h g = refl
same_kinds [] (u ∷ us) e h g = absurd (cc)
same_kinds (t ∷ ts) [] e h g = absurd (cc)
same_kinds (t ∷ ts) (u ∷ us) e h g =
    let first = same_kind t u (first_is (mean t) (mean u) (map mean ts) (map mean us) e) (and_left (has_kind t) (list_all has_kind ts) h) (and_left (has_kind u) (list_all has_kind us) g) in
    let rest = same_kinds ts us (rest_is (mean t) (mean u) (map mean ts) (map mean us) e) (and_right (has_kind t) (list_all has_kind ts) h) (and_right (has_kind u) (list_all has_kind us) g) in
    λ i. first i ∷ rest i

kinds_known : (ts us : List Ty) → map kind_of ts ≡ map kind_of us → map (λ t. kind_or_truth (kind_of t)) ts ≡ map (λ t. kind_or_truth (kind_of t)) us
kinds_known [] [] e = refl
kinds_known [] (u ∷ us) e = absurd (cc)
kinds_known (t ∷ ts) [] e = absurd (cc)
kinds_known (t ∷ ts) (u ∷ us) e =
    let first = ap kind_or_truth (first_is (kind_of t) (kind_of u) (map kind_of ts) (map kind_of us) e) in
    let rest = kinds_known ts us (rest_is (kind_of t) (kind_of u) (map kind_of ts) (map kind_of us) e) in
    λ i. first i ∷ rest i

same_parts : (xss yss : List (List Ty)) → map (map mean) xss ≡ map (map mean) yss → IsTrue (list_all (list_all has_kind) xss)
    → IsTrue (list_all (list_all has_kind) yss) → (n : ℕ)
    → map (λ t. kind_or_truth (kind_of t)) (nth [] n xss) ≡ map (λ t. kind_or_truth (kind_of t)) (nth [] n yss)
same_parts [] [] e h g n = refl
same_parts [] (ys ∷ yss) e h g n = absurd (cc)
same_parts (xs ∷ xss) [] e h g n = absurd (cc)
same_parts (xs ∷ xss) (ys ∷ yss) e h g zero =
    kinds_known xs ys (same_kinds xs ys (first_is (map mean xs) (map mean ys) (map (map mean) xss) (map (map mean) yss) e)
    (and_left (list_all has_kind xs) (list_all (list_all has_kind) xss) h) (and_left (list_all has_kind ys) (list_all (list_all has_kind) yss) g))
same_parts (xs ∷ xss) (ys ∷ yss) e h g (suc n) =
    same_parts xss yss (rest_is (map mean xs) (map mean ys) (map (map mean) xss) (map (map mean) yss) e)
    (and_right (list_all has_kind xs) (list_all (list_all has_kind) xss) h) (and_right (list_all has_kind ys) (list_all (list_all has_kind) yss) g) n

-- ---- a job's own parts by two typings

module _ (w : ℕ) (job : Job) (t u : Typed) (same : (n : ℕ) → part_kinds t n ≡ part_kinds u n) where
  invariants_same : (n : ℕ) (es : List Expr) → sized_invariants w t n es ≡ sized_invariants w u n es
  invariants_same n [] = refl
  invariants_same n (e ∷ es) = λ i. typed_sized w (record { tree = e; kinds = same n i; around = [] }) ∷ invariants_same (suc n) es i

  parts_same : job_parts w job t ≡ job_parts w job u
  parts_same = λ i. record {
    fixed = map (λ (d : Decl). d.constant) job.names;
    constants = sized_job_paths w (job_marks job (in_cinit job)) (record { tree = job.cinit; kinds = same 0 i; around = [] });
    assume = typed_sized w (record { tree = job.assume; kinds = same 1 i; around = [] });
    start = sized_job_paths w (job_marks job (in_init job)) (record { tree = job.init; kinds = same 2 i; around = [] });
    next = sized_job_paths w (job_marks job (in_next job)) (record { tree = job.next; kinds = same 3 i; around = [] });
    invariants = invariants_same 4 (map (λ e. e.1) job.invs) i;
  }

-- ---- the system of a kernel

assigned_are : (kind : ActionKind) (names : List Decl) (ps : List KerPath) (as' : List Assigned) → AreAssigned kind names ps as'
    → as' ≡ map (λ x. record { place = x.place; steps = marked (marks_of kind names) [] x.steps }) ps
assigned_are kind names [] [] h = refl
assigned_are kind names (p ∷ ps) (a ∷ as') h =
    let rest = assigned_are kind names ps as' h.1 in
    let first = h.0.is in
    λ i. first i ∷ rest i
assigned_are kind names [] (a ∷ as') h = absurd h
assigned_are kind names (p ∷ ps) [] h = absurd h

system_is : (job : Job) (s : System) → IsSystem job.names s → s ≡ kernel_system job s.ker
system_is job s h =
    let constants = assigned_are Constants job.names _ s.constants h.constants.assigned in
    let start = assigned_are Start job.names _ s.start h.start.assigned in
    let next = assigned_are Step job.names _ s.next h.next.assigned in
    λ i. record { ker = s.ker; constants = constants i; start = start i; next = next i }

-- ---- the law

sound_kernel : (job : Job) (t : Typed) (k : KerJob) → IsTypedJob job t → IsReducedJob job t k → IsSoundKernelOf job t k
sound_kernel job t k typed reduced = record { kernel = reduced.kernel; rows = typed_meets job t typed.bound typed.types; sound = reduced.sound }

record IsKinded (t : Typed) : Type 0 where
  pub names : IsTrue (list_all has_kind t.names)
  pub parts : IsTrue (list_all (list_all has_kind) t.parts)

is_kinded : (job : Job) (t : Typed) (k : KerJob) → IsKernelOf job t k → IsKinded t
is_kinded job t k h =
    let both = and_right _ _ (and_left _ _ (and_left _ _ h.well_formed)) in
    record {
      names = and_left (list_all has_kind t.names) (list_all (list_all has_kind) t.parts) both;
      parts = and_right (list_all has_kind t.names) (list_all (list_all has_kind) t.parts) both;
    }

-- what is refused of a system is what the job's own trees refuse
module _ (w : ℕ) (two : 2 ≤ w) (job : Job) (t : Typed) (s : System) (typed : IsTypedJob job t) (reduced : IsReducedJob job t s.ker)
    (paths : IsSystem job.names s) where
  own_refusal : (n : ℕ) → refused (system_parts w s) n ≡ refused (job_parts w job t) n
  own_refusal n =
      ap (λ z. refused (system_parts w z) n) (system_is job s paths)
      ∙ sym (keeps_job_refusals w job t s.ker n two (sound_kernel job t s.ker typed reduced))

  own_typed : (b : Bounds) (ks : List Kind) → kinds_of_names s.ker ≡ Some ks
      → refused_typed (system_parts w s) (typed_first b.low b.high b.size (system_parts w s) ks)
      ≡ refused_typed (job_parts w job t) (typed_first b.low b.high b.size (job_parts w job t) ks)
  own_typed b ks there =
      ap (λ z. refused_typed (system_parts w z) (typed_first b.low b.high b.size (system_parts w z) ks)) (system_is job s paths)
      ∙ sym (keeps_typed_refusals w job t s.ker b.low b.high b.size ks two (sound_kernel job t s.ker typed reduced) there)

pub same_numbers : SameNumbers
same_numbers w job t u s z wide typed typed' reduced reduced' paths paths' =
    let two : 2 ≤ w = omega (arith, wide) in
    let one = one_typing job t u typed.bound typed.types typed'.types in
    let kt = is_kinded job t s.ker reduced.kernel in
    let ku = is_kinded job u z.ker reduced'.kernel in
    let parts : job_parts w job t ≡ job_parts w job u = parts_same w job t u (same_parts t.parts u.parts one.parts kt.parts ku.parts) in
    let names : kinds_of_names s.ker ≡ kinds_of_names z.ker =
    ap (λ ns. all_there (map kind_of ns)) reduced.kernel.names
    ∙ ap all_there (same_kinds t.names u.names one.names kt.names ku.names)
    ∙ sym (ap (λ ns. all_there (map kind_of ns)) reduced'.kernel.names) in
    record {
      levels = λ n. own_refusal w two job t s typed reduced paths n ∙ ap (λ p. refused p n) parts
          ∙ sym (own_refusal w two job u z typed' reduced' paths' n);
      kinds = names;
      typed = λ b ks there.
          own_typed w two job t s typed reduced paths b ks there
          ∙ ap (λ p. refused_typed p (typed_first b.low b.high b.size p ks)) parts
          ∙ sym (own_typed w two job u z typed' reduced' paths' b ks (sym names ∙ there));
    }
