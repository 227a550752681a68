-- No request is both accepted and refused, but for want of memory and a read that failed.
use Rattle.std.proofs.Common.{◌≡◌, ◌⊎◌, inl, inr, ◌≤◌, ◌<◌, ◌+◌, ℕ, suc, Bool, true, false, List, [], ◌∷◌, map, length, refl, ap, sym, ◌∙◌, subst, arith, Option, Some, None, Result, Ok, Err}
use Rattle.std.specs.Prelude.{IsTrue}
use Rattle.std.specs.declared.alloc.AllocError.{AllocError}
use Rattle.std.proofs.lemmas.Bool.{true≢false, false≢true}
use Rattle.assignment_finder.specs.Finding.{IsFound}
use Rattle.assignment_finder.specs.declared.assign_fault.AssignFault.{AssignFault}
use Rattle.assignment_finder.specs.declared.assign_fault.AssignFault.TheVariants as assigns
use Rattle.front_end.proofs.ToldPaths.{assigned_or_fault, marked_path, same_assigned}
use Rattle.front_end.specs.Accepted.{AreAssigned, HasFewPaths, HasPaths, IsAccepted, IsAcceptedFor, IsLevelsAnswer, IsOnlyFlat, IsReducedJob, IsSystem, IsTypedJob, KeepsTypedLimits, MakesJob, action_paths, actions, made, typed_shapes_of}
use Rattle.front_end.specs.Faults.{of_assign, of_inline, of_ker, of_module, of_shape, of_split, of_type}
use Rattle.front_end.specs.Refused.{HaveFewPaths, IsExcess, IsFirstAssign, IsFirstPath, IsFirstSplit, IsFlatRefusal, IsJobRefusal, IsKernelRefusal, IsPassing, IsRefusal, IsTypedExcess, IsTypedRefusal}
use Rattle.front_end.specs.declared.fault.FrontFault.{FrontFault}
use Rattle.front_end.specs.declared.fault.FrontFault.TheVariants as front
use Rattle.front_end.specs.declared.request.Accepted.{Accepted}
use Rattle.front_end.specs.declared.request.Request.{Request}
use Rattle.kernel_reduction.proofs.BuiltJobs.{keeps_job_paths}
use Rattle.kernel_reduction.specs.Infinite.{IsLeastIfAny}
use Rattle.kernel_reduction.specs.JobPaths.{Told, told_kernel_path}
use Rattle.kernel_reduction.specs.Kernels.{IsReduced}
use Rattle.kernel_shapes.specs.Counts.{Count}
use Rattle.kernel_shapes.specs.Levels.{refused, refused_typed, typed_numbers}
use Rattle.kernel_shapes.specs.Systems.{system_parts}
use Rattle.kernel_shapes.specs.declared.bounds.Bounds.{Bounds}
use Rattle.kernel_trees.specs.ActionNames.{marks_of}
use Rattle.kernel_trees.specs.Sound.{passes}
use Rattle.kernel_trees.specs.Systems.{kinds_of_names}
use Rattle.kernel_trees.specs.TypeKinds.{Kind}
use Rattle.kernel_trees.specs.declared.action_kind.ActionKind.{ActionKind}
use Rattle.kernel_trees.specs.declared.action_kind.ActionKind.TheVariants.{Constants, Start, Step}
use Rattle.kernel_trees.specs.declared.faults.KerFault.{KerFault}
use Rattle.kernel_trees.specs.declared.faults.KerFault.TheVariants as kernels
use Rattle.kernel_trees.specs.declared.kernel.Ker.{Ker}
use Rattle.kernel_trees.specs.declared.path.Assigned.{Assigned}
use Rattle.kernel_trees.specs.declared.path.KerPath.{KerPath}
use Rattle.kernel_trees.specs.declared.system.KerJob.{KerJob}
use Rattle.kernel_trees.specs.declared.system.System.{System}
use Rattle.op_inliner.specs.Answers.{Answer, Gives, IsAnswered as IsJobAnswered, Refuses}
use Rattle.op_inliner.specs.Known.{are_known}
use Rattle.op_inliner.specs.declared.parts.InlineFault.{InlineFault}
use Rattle.op_inliner.specs.declared.parts.InlineFault.TheVariants as inlines
use Rattle.shape_bounds.specs.Stages.{IsAnswer as IsShapesAnswer, told}
use Rattle.shape_bounds.specs.declared.shape_fault.ShapeFault.{ShapeFault}
use Rattle.shape_bounds.specs.declared.shape_fault.ShapeFault.TheVariants as shapes
use Rattle.snowcat_rows.specs.declared.types.Typed.{Typed}
use Rattle.snowcat_types.proofs.Clashes.{clash_excludes}
use Rattle.snowcat_types.proofs.Unread.{bad_excludes, missing_excludes}
use Rattle.snowcat_types.specs.Answers.{IsAnswered as IsTypingAnswered, IsTypedAs, is_typable}
use Rattle.snowcat_types.specs.declared.faults.TypeFault.{TypeFault}
use Rattle.snowcat_types.specs.declared.faults.TypeFault.TheVariants as types
use Rattle.tla_meaning.proofs.Views.{and_right}
use Rattle.tla_meaning.specs.declared.expr.Decl.{Decl}
use Rattle.tla_meaning.specs.declared.job.Job.{Job}
use Rattle.tla_meaning.specs.declared.modules.Flat.{Flat}
use Rattle.tla_modules.specs.Answers.{IsTold}
use Rattle.tool_outside.specs.Outside.{Folder}
use Rattle.transition_splitter.specs.Splitting.{IsSplit, most_paths}
use Rattle.transition_splitter.specs.declared.split_fault.SplitFault.{SplitFault}
use Rattle.transition_splitter.specs.declared.split_fault.SplitFault.TheVariants as splits

-- ---- a fault that a stage tells is no want of memory

assign_told : (f : AssignFault) → of_assign f ≡ front.Assign f → (e : AllocError) → f ≡ assigns.Memory e → ⊥
assign_told (assigns.Memory d) h e g = absurd (cc)
assign_told (assigns.Unassigned i p) h e g = absurd (cc)
assign_told (assigns.ReadEarly i p) h e g = absurd (cc)
assign_told (assigns.Infinite p) h e g = absurd (cc)

-- ---- paths of which the same is told

module _ (kind : ActionKind) (names : List Decl) where
  abbrev pub AreSame : List KerPath → List KerPath → Type 0
  AreSame ps qs = map (told_kernel_path (marks_of kind names)) ps ≡ map (told_kernel_path (marks_of kind names)) qs

  first_same : (p q : KerPath) (ps qs : List KerPath) → AreSame (p ∷ ps) (q ∷ qs)
      → told_kernel_path (marks_of kind names) p ≡ told_kernel_path (marks_of kind names) q
  first_same p q ps qs e = cc

  rest_same : (p q : KerPath) (ps qs : List KerPath) → AreSame (p ∷ ps) (q ∷ qs) → AreSame ps qs
  rest_same p q ps qs e = cc

  same_number : (ps qs : List KerPath) → AreSame ps qs → length ps ≡ length qs
  same_number [] [] e = refl
  same_number [] (q ∷ qs) e = absurd (cc)
  same_number (p ∷ ps) [] e = absurd (cc)
  same_number (p ∷ ps) (q ∷ qs) e = ap suc (same_number ps qs (rest_same p q ps qs e))

  not_first : (ps qs : List KerPath) (as' : List Assigned) (f : AssignFault) → AreSame ps qs → of_assign f ≡ front.Assign f
      → AreAssigned kind names ps as' → IsFirstPath kind names qs f → ⊥
  not_first [] [] as' f e told h g = g
  not_first [] (q ∷ qs) as' f e told h g = absurd (cc)
  not_first (p ∷ ps) [] as' f e told h g = g
  not_first (p ∷ ps) (q ∷ qs) [] f e told h g = h
  not_first (p ∷ ps) (q ∷ qs) (a ∷ as') f e told h (inl g) =
      let m = marks_of kind names in
      assigned_or_fault m q (marked_path m q) f (same_assigned m p q a (first_same p q ps qs e) h.0) g (assign_told f told)
  not_first (p ∷ ps) (q ∷ qs) (a ∷ as') f e told h (inr g) =
      not_first ps qs as' f (rest_same p q ps qs e) told h.1 g.1

  not_split : (k j : Ker) (f : SplitFault) → AreSame (action_paths names (kind, k)) (action_paths names (kind, j))
      → of_split f ≡ front.Split f → HasFewPaths names (kind, k) → IsSplit kind names j (Err f) → ⊥
  not_split k j (splits.TooManyPaths n) e told few g =
      let lt : most_paths < length (action_paths names (kind, j)) = g.1 in
      let same : length (action_paths names (kind, k)) ≡ length (action_paths names (kind, j)) =
      same_number (action_paths names (kind, k)) (action_paths names (kind, j)) e in
      let le : length (action_paths names (kind, k)) ≤ most_paths = few in
      omega (arith, lt, same, le)
  not_split k j (splits.Memory d) e told few g = absurd (cc)

-- of the three actions of two kernels
record SameTold (names : List Decl) (k j : KerJob) : Type 0 where
  pub constants : AreSame Constants names (action_paths names (Constants, k.cinit)) (action_paths names (Constants, j.cinit))
  pub start : AreSame Start names (action_paths names (Start, k.init)) (action_paths names (Start, j.init))
  pub next : AreSame Step names (action_paths names (Step, k.next)) (action_paths names (Step, j.next))

module _ (names : List Decl) (k j : KerJob) (same : SameTold names k j) where
  few_paths : (f : SplitFault) → of_split f ≡ front.Split f → HaveFewPaths names k → IsFirstSplit names (actions j) f → ⊥
  few_paths f told few (inl g) = not_split Constants names k.cinit j.cinit f same.constants told few.constants g
  few_paths f told few (inr (c, inl g)) = not_split Start names k.init j.init f same.start told few.start g
  few_paths f told few (inr (c, inr (s, inl g))) = not_split Step names k.next j.next f same.next told few.next g
  few_paths f told few (inr (c, inr (s, inr g))) = g.1

  all_assigned : (s : System) → s.ker ≡ k → IsSystem names s → (f : AssignFault) → of_assign f ≡ front.Assign f
      → IsFirstAssign names (actions j) f → ⊥
  all_assigned s e h f told (inl g) =
      not_first Constants names (action_paths names (Constants, k.cinit)) (action_paths names (Constants, j.cinit)) s.constants f same.constants told
      (let P : KerJob → Type 0 = λ z. AreAssigned Constants names (action_paths names (Constants, z.cinit)) s.constants in
      subst P e h.constants.assigned) g
  all_assigned s e h f told (inr (c, inl g)) =
      not_first Start names (action_paths names (Start, k.init)) (action_paths names (Start, j.init)) s.start f same.start told
      (let P : KerJob → Type 0 = λ z. AreAssigned Start names (action_paths names (Start, z.init)) s.start in
      subst P e h.start.assigned) g
  all_assigned s e h f told (inr (c, inr (d, inl g))) =
      not_first Step names (action_paths names (Step, k.next)) (action_paths names (Step, j.next)) s.next f same.next told
      (let P : KerJob → Type 0 = λ z. AreAssigned Step names (action_paths names (Step, z.next)) s.next in
      subst P e h.next.assigned) g
  all_assigned s e h f told (inr (c, inr (d, inr g))) = g.1

few_of : (names : List Decl) (s : System) → IsSystem names s → HaveFewPaths names s.ker
few_of names s h = record { constants = h.constants.few; start = h.start.few; next = h.next.few }

-- two kernels of one job
kernels_told : (job : Job) (t u : Typed) (k j : KerJob) → IsTrue (is_typable job) → IsReducedJob job t k → IsReducedJob job u j
    → SameTold job.names k j
kernels_told job t u k j can h g =
    let p = keeps_job_paths job k h.built can in
    let q = keeps_job_paths job j g.built can in
    record {
      constants = sym (p.cinit []) ∙ q.cinit [];
      start = sym (p.init []) ∙ q.init [];
      next = sym (p.next []) ∙ q.next [];
    }

-- ---- numbers

-- two systems have the same refusals from the start, and from each typed state
pub record SameRefusals (w : ℕ) (s z : System) : Type 0 where
  pub levels : (n : ℕ) → refused (system_parts w s) n ≡ refused (system_parts w z) n
  pub kinds : kinds_of_names s.ker ≡ kinds_of_names z.ker
  pub typed : (b : Bounds) (ks : List Kind) → kinds_of_names s.ker ≡ Some ks →
      refused_typed (system_parts w s) (typed_shapes_of s w b ks) ≡ refused_typed (system_parts w z) (typed_shapes_of z w b ks)

is_told : (f : ShapeFault) → of_shape f ≡ front.Shape f → (o : Option (ℕ × Count)) → o ≡ None → o ≡ told f → ⊥
is_told (shapes.TooLarge n p m) h o e g = absurd (let d : None ≡ told (shapes.TooLarge n p m) = sym e ∙ g in cc)
is_told (shapes.TooLong n p m) h o e g = absurd (let d : None ≡ told (shapes.TooLong n p m) = sym e ∙ g in cc)
is_told (shapes.Memory d) h o e g = absurd (cc)

module _ (r : Request) (s z : System) (same : SameRefusals r.width s z) (ks : List Kind) (there : kinds_of_names s.ker ≡ Some ks)
    (kept : refused (system_parts r.width s) r.length ≡ None) (limits : KeepsTypedLimits s r.width r.bounds) where
  from_start : (f : ShapeFault) → of_shape f ≡ front.Shape f → IsLevelsAnswer z r.width r.length (Err f) → ⊥
  from_start (shapes.TooLarge n p m) h g = is_told (shapes.TooLarge n p m) h (refused (system_parts r.width z) r.length) (sym (same.levels r.length) ∙ kept) g
  from_start (shapes.TooLong n p m) h g = is_told (shapes.TooLong n p m) h (refused (system_parts r.width z) r.length) (sym (same.levels r.length) ∙ kept) g
  from_start (shapes.Memory d) h g = absurd (cc)

  typed_told : (b : Bounds) (f : ShapeFault) → of_shape f ≡ front.Shape f
      → (let p = system_parts r.width z in IsShapesAnswer p (typed_numbers p) (typed_shapes_of z r.width b ks) 1 (Err f))
      → refused_typed (system_parts r.width z) (typed_shapes_of z r.width b ks) ≡ told f
  typed_told b (shapes.TooLarge n p m) h g = g
  typed_told b (shapes.TooLong n p m) h g = g
  typed_told b (shapes.Memory d) h g = absurd (cc)

  from_typed : (o : Option Bounds) → KeepsTypedLimits s r.width o → (f : ShapeFault) → of_shape f ≡ front.Shape f
      → IsTypedExcess z r.width o f → ⊥
  from_typed None l f h g = g
  from_typed (Some b) l f h g =
      is_told f h (refused_typed (system_parts r.width z) (typed_shapes_of z r.width b ks)) (sym (same.typed b ks there) ∙ l ks there)
      (typed_told b f h (g ks (sym same.kinds ∙ there)))

  no_excess : (f : ShapeFault) → of_shape f ≡ front.Shape f → IsExcess r z f → ⊥
  no_excess f h (inl g) = from_start f h g
  no_excess f h (inr g) = from_typed r.bounds limits f h g.1

-- ---- of a kernel

-- two kernels of a job, by whatever typings, have the same refusals
abbrev pub SameNumbers : Type 0
SameNumbers =
    (w : ℕ) (job : Job) (t u : Typed) (s z : System) → 4 ≤ w → IsTypedJob job t → IsTypedJob job u → IsReducedJob job t s.ker
    → IsReducedJob job u z.ker → IsSystem job.names s → IsSystem job.names z → SameRefusals w s z

ker_told : (f : KerFault) → of_ker f ≡ front.Ker f → (job : Job) → IsLeastIfAny job None → IsReduced job (Err f) → ⊥
ker_told (kernels.NotFinite p) told job none h = none p h.there
ker_told (kernels.Memory e) told job none h = absurd (cc)

-- a job whose kernel keeps the limits of a request
record IsKept (r : Request) (job : Job) (t : Typed) (s : System) : Type 0 where
  pub typed : IsTypedJob job t
  pub reduced : IsReducedJob job t s.ker
  pub paths : IsSystem job.names s
  pub kinds : (ks : List Kind) × (kinds_of_names s.ker ≡ Some ks)
  pub levels : refused (system_parts r.width s) r.length ≡ None
  pub limits : KeepsTypedLimits s r.width r.bounds

module _ (law : SameNumbers) (r : Request) (wide : 4 ≤ r.width) (job : Job) (t : Typed) (s : System) (kept : IsKept r job t s) where
  of_kernel : (u : Typed) (j : KerJob) → IsTypedJob job u → IsReducedJob job u j → (f : FrontFault) → IsKernelRefusal r job.names j f → IsPassing f
  of_kernel u j typed reduced (front.Split f) h =
      few_paths job.names s.ker j (kernels_told job t u s.ker j kept.typed.bound kept.reduced reduced) f h.1 (few_of job.names s kept.paths) h.0
  of_kernel u j typed reduced (front.Assign f) h =
      all_assigned job.names s.ker j (kernels_told job t u s.ker j kept.typed.bound kept.reduced reduced) s refl kept.paths f h.2 h.1
  of_kernel u j typed reduced (front.Shape f) (z, (same, paths, excess, told)) =
      let again : IsReducedJob job u z.ker = subst (IsReducedJob job u) (sym same) reduced in
      no_excess r s z (law r.width job t u s z wide kept.typed typed kept.reduced again kept.paths paths) kept.kinds.0 kept.kinds.1 kept.levels
      kept.limits f told excess
  of_kernel u j typed reduced (front.Memory e) h = tt
  of_kernel u j typed reduced (front.Module f) h = absurd h
  of_kernel u j typed reduced (front.Inline f) h = absurd h
  of_kernel u j typed reduced (front.«Type» f) h = absurd h
  of_kernel u j typed reduced (front.Ker f) h = absurd h

  of_typed : (u : Typed) → IsTypedJob job u → (f : FrontFault) → IsTypedRefusal r job u f → IsPassing f
  of_typed u typed (front.Ker f) h = ker_told f h.1 job kept.reduced.finite h.0
  of_typed u typed (front.Memory e) h = tt
  of_typed u typed (front.Split f) (j, (reduced, h)) = of_kernel u j typed reduced (front.Split f) h
  of_typed u typed (front.Assign f) (j, (reduced, h)) = of_kernel u j typed reduced (front.Assign f) h
  of_typed u typed (front.Shape f) (j, (reduced, h)) = of_kernel u j typed reduced (front.Shape f) h
  of_typed u typed (front.Module f) (j, (reduced, h)) = absurd h
  of_typed u typed (front.Inline f) (j, (reduced, h)) = absurd h
  of_typed u typed (front.«Type» f) (j, (reduced, h)) = absurd h

  -- ---- of a job

  type_told : (f : TypeFault) → of_type f ≡ front.«Type» f → IsTypingAnswered job (Err f) → ⊥
  type_told (types.NotAnnotated x p) told h = missing_excludes job t x p kept.typed.types h
  type_told (types.BadAnnotation p) told h = bad_excludes job t p kept.typed.types h
  type_told (types.Clash p a b ds) told h = clash_excludes job t p a b ds kept.typed.types h
  type_told (types.Memory e) told h = absurd (cc)

  of_job : (f : FrontFault) → IsJobRefusal r job f → IsPassing f
  of_job (front.«Type» f) h = type_told f h.2 h.1
  of_job (front.Memory e) h = tt
  of_job (front.Ker f) (u, (typed, h)) = of_typed u typed (front.Ker f) h
  of_job (front.Split f) (u, (typed, h)) = of_typed u typed (front.Split f) h
  of_job (front.Assign f) (u, (typed, h)) = of_typed u typed (front.Assign f) h
  of_job (front.Shape f) (u, (typed, h)) = of_typed u typed (front.Shape f) h
  of_job (front.Module f) (u, (typed, h)) = absurd h.1.1
  of_job (front.Inline f) (u, (typed, h)) = absurd h.1.1

-- ---- of modules

abbrev given : Answer Job → Job → Job
given (Gives job) other = job
given (Refuses e) other = other

abbrev is_given : Answer Job → Bool
is_given (Gives job) = true
is_given (Refuses e) = false

one_job : (x : Answer Job) (job other : Job) → x ≡ Gives job → x ≡ Gives other → job ≡ other
one_job x job other e f = ap (λ y. given y job) (sym e ∙ f)

inline_told : (x : Answer Job) (job : Job) → x ≡ Gives job → (f : InlineFault) → of_inline f ≡ front.Inline f → IsJobAnswered x (Err f) → ⊥
inline_told x job e (inlines.NoOperator y) told h = true≢false (ap is_given (sym e ∙ h))
inline_told x job e (inlines.TooLarge y n) told h = true≢false (ap is_given (sym e ∙ h))
inline_told x job e (inlines.TooDeep y) told h = true≢false (ap is_given (sym e ∙ h))
inline_told x job e (inlines.Reached g p) told h = true≢false (ap is_given (sym e ∙ h))
inline_told x job e (inlines.Memory d) told h = absurd (cc)

some_kinds : {X : Type 0} (f : X → Bool) (o : Option X) → IsTrue (passes f o) → (x : X) × (o ≡ Some x)
some_kinds f None h = absurd (false≢true h)
some_kinds f (Some x) h = (x, refl)

module _ (law : SameNumbers) (held : Option Folder) (r : Request) (wide : 4 ≤ r.width) (a : Accepted) (h : IsAcceptedFor held r a) where
  kept : IsKept r a.job a.typed a.system
  kept = record {
    typed = h.whole.typed;
    reduced = h.whole.reduced;
    paths = h.whole.paths;
    kinds = some_kinds _ (kinds_of_names a.system.ker) (and_right _ _ h.whole.reduced.sound);
    levels =
        let P : ℕ → Type 0 = λ w. refused (system_parts w a.system) a.length ≡ None in
        let Q : ℕ → Type 0 = λ n. refused (system_parts r.width a.system) n ≡ None in
        subst Q h.same_length (subst P h.same_width h.whole.shapes.0);
    limits =
        let P : ℕ → Type 0 = λ w. KeepsTypedLimits a.system w a.bounds in
        let Q : Option Bounds → Type 0 = λ b. KeepsTypedLimits a.system r.width b in
        subst Q h.same_bounds (subst P h.same_width h.whole.typed_limits);
  }

  -- of the one job that the flat module makes
  of_made : (job : Job) → MakesJob r h.flat job → (f : FrontFault) → IsJobRefusal r job f → IsPassing f
  of_made job makes f g =
      let e : job ≡ a.job = one_job (made r h.flat) job a.job makes.gives h.makes.gives in
      let P : Job → Type 0 = λ z. IsJobRefusal r z f in
      of_job law r wide a.job a.typed a.system kept f (subst P e g)

  of_flat : (files : List (List ℕ)) (names : List Decl) (f : FrontFault) → IsFlatRefusal r h.flat files names f → IsPassing f
  of_flat files names (front.Inline f) g = inline_told (made r h.flat) a.job h.makes.gives f g.2 g.1
  of_flat files names (front.Memory e) g = tt
  of_flat files names (front.«Type» f) (job, (makes, g, fs, ns)) = of_made job makes (front.«Type» f) g
  of_flat files names (front.Ker f) (job, (makes, g, fs, ns)) = of_made job makes (front.Ker f) g
  of_flat files names (front.Split f) (job, (makes, g, fs, ns)) = of_made job makes (front.Split f) g
  of_flat files names (front.Assign f) (job, (makes, g, fs, ns)) = of_made job makes (front.Assign f) g
  of_flat files names (front.Shape f) (job, (makes, g, fs, ns)) = of_made job makes (front.Shape f) g
  of_flat files names (front.Module f) (job, (makes, g, fs, ns)) = absurd g.1.1.1.1

  -- of the one flat module of the files
  of_files : (files : List (List ℕ)) (names : List Decl) (told : IsTold held) (flat : Flat) → IsOnlyFlat held r.root flat → (f : FrontFault)
      → IsFlatRefusal r flat files names f → IsPassing f
  of_files files names told flat one f g =
      let P : Flat → Type 0 = λ z. IsFlatRefusal r z files names f in
      of_flat files names f (subst P (h.joined.only told flat one.joined) g)

  pub not_refused : (before now : ℕ) (files : List (List ℕ)) (names : List Decl) (f : FrontFault) → IsTold held
      → IsRefusal held before now r files names f → IsPassing f
  not_refused before now files names (front.Module f) told g = g.0.apart h.flat told h.joined.joined
  not_refused before now files names (front.Memory e) told g = tt
  not_refused before now files names (front.Inline f) told (flat, (one, g, stay)) = of_files files names told flat one (front.Inline f) g
  not_refused before now files names (front.«Type» f) told (flat, (one, g, stay)) = of_files files names told flat one (front.«Type» f) g
  not_refused before now files names (front.Ker f) told (flat, (one, g, stay)) = of_files files names told flat one (front.Ker f) g
  not_refused before now files names (front.Split f) told (flat, (one, g, stay)) = of_files files names told flat one (front.Split f) g
  not_refused before now files names (front.Assign f) told (flat, (one, g, stay)) = of_files files names told flat one (front.Assign f) g
  not_refused before now files names (front.Shape f) told (flat, (one, g, stay)) = of_files files names told flat one (front.Shape f) g

-- where the files are told, what is accepted of a request is of one job
pub one_accepted_job : (held : Option Folder) (r : Request) (a b : Accepted) → IsTold held → IsAcceptedFor held r a → IsAcceptedFor held r b
    → a.job ≡ b.job
one_accepted_job held r a b told h g =
    let P : Flat → Type 0 = λ z. made r z ≡ Gives b.job in
    one_job (made r h.flat) a.job b.job h.makes.gives (subst P (h.joined.only told g.flat g.joined.joined) g.makes.gives)
