-- Which answer is given, stage by stage, from the kernel up.
use Rattle.std.proofs.Common.{◌≡◌, ◌⊎◌, inl, inr, ◌≤◌, ℕ, Bool, true, List, [], Option, Result, Ok, Err, arith, refl, sym, ◌∙◌, subst}
use Rattle.std.specs.Prelude.{IsTrue, MatchResult}
use Rattle.std.specs.declared.alloc.AllocError.{AllocError}
use Rattle.assignment_finder.specs.declared.assign_fault.AssignFault.{AssignFault}
use Rattle.assignment_finder.specs.declared.assign_fault.AssignFault.TheVariants as assigns
use Rattle.front_end.specs.Accepted.{IsOnlyFlat, IsReducedJob, IsSystem, IsTypedJob, MakesJob, actions, made}
use Rattle.front_end.specs.Faults.{of_assign, of_inline, of_ker, of_module, of_shape, of_split, of_type}
use Rattle.front_end.specs.Refused.{HaveFewPaths, IsAnswer, IsExcess, IsFirstAssign, IsFirstSplit, IsJobRefusal, IsKernelRefusal, IsRefusal, IsTypedRefusal}
use Rattle.front_end.specs.declared.fault.FrontFault.{FrontFault}
use Rattle.front_end.specs.declared.fault.FrontFault.TheVariants as front
use Rattle.front_end.specs.declared.fault.Refusal.{Refusal}
use Rattle.front_end.specs.declared.request.Accepted.{Accepted}
use Rattle.front_end.specs.declared.request.Request.{Request}
use Rattle.front_end.specs.declared.bounding.Bounded.{Bounded}
use Rattle.front_end.specs.inner.Stages.{IsJudged, IsKernelBounded, IsMadeBy}
use Rattle.kernel_reduction.specs.Kernels.{IsReduced}
use Rattle.kernel_trees.specs.declared.faults.KerFault.{KerFault}
use Rattle.kernel_trees.specs.declared.faults.KerFault.TheVariants as kernels
use Rattle.kernel_trees.specs.declared.system.KerJob.{KerJob}
use Rattle.kernel_trees.specs.declared.system.System.{System}
use Rattle.op_inliner.specs.Answers.{IsAnswered as IsJobAnswered}
use Rattle.op_inliner.specs.Known.{are_known}
use Rattle.op_inliner.specs.declared.parts.InlineFault.{InlineFault}
use Rattle.op_inliner.specs.declared.parts.InlineFault.TheVariants as inlines
use Rattle.shape_bounds.specs.declared.shape_fault.ShapeFault.{ShapeFault}
use Rattle.shape_bounds.specs.declared.shape_fault.ShapeFault.TheVariants as shapes
use Rattle.snowcat_rows.specs.declared.types.Typed.{Typed}
use Rattle.snowcat_types.specs.Answers.{IsAnswered as IsTypingAnswered, is_typable}
use Rattle.snowcat_types.specs.declared.faults.TypeFault.{TypeFault}
use Rattle.snowcat_types.specs.declared.faults.TypeFault.TheVariants as types
use Rattle.tla_meaning.specs.declared.expr.Decl.{Decl}
use Rattle.tla_meaning.specs.declared.job.Job.{Job}
use Rattle.tla_meaning.specs.declared.modules.Flat.{Flat}
use Rattle.tla_modules.specs.Answers.{IsFlatModule, IsTold}
use Rattle.tla_modules.specs.Refusals.{IsCounted, IsOutside, IsRefused}
use Rattle.tla_modules.specs.declared.fault.ModuleFault.{ModuleFault}
use Rattle.tla_modules.specs.declared.fault.ModuleFault.TheVariants as modules
use Rattle.tla_modules.specs.declared.fault.ModuleRefusal.{ModuleRefusal}
use Rattle.tool_outside.specs.Outside.{Folder}
use Rattle.transition_splitter.specs.declared.split_fault.SplitFault.{SplitFault}
use Rattle.transition_splitter.specs.declared.split_fault.SplitFault.TheVariants as splits

-- ---- faults that are no want of memory are told as they are

pub told_module : (f : ModuleFault) → ((e : AllocError) → f ≡ modules.Memory e → ⊥) → front.Module f ≡ of_module f
told_module (modules.Memory e) not = absurd (not e refl)
told_module f not = refl

pub told_inline : (f : InlineFault) → ((e : AllocError) → f ≡ inlines.Memory e → ⊥) → front.Inline f ≡ of_inline f
told_inline (inlines.Memory e) not = absurd (not e refl)
told_inline f not = refl

pub told_type : (f : TypeFault) → ((e : AllocError) → f ≡ types.Memory e → ⊥) → front.«Type» f ≡ of_type f
told_type (types.Memory e) not = absurd (not e refl)
told_type f not = refl

pub told_ker : (f : KerFault) → ((e : AllocError) → f ≡ kernels.Memory e → ⊥) → front.Ker f ≡ of_ker f
told_ker (kernels.Memory e) not = absurd (not e refl)
told_ker f not = refl

pub told_split : (f : SplitFault) → ((e : AllocError) → f ≡ splits.Memory e → ⊥) → front.Split f ≡ of_split f
told_split (splits.Memory e) not = absurd (not e refl)
told_split f not = refl

pub told_assign : (f : AssignFault) → ((e : AllocError) → f ≡ assigns.Memory e → ⊥) → front.Assign f ≡ of_assign f
told_assign (assigns.Memory e) not = absurd (not e refl)
told_assign f not = refl

pub told_shape : (f : ShapeFault) → ((e : AllocError) → f ≡ shapes.Memory e → ⊥) → front.Shape f ≡ of_shape f
told_shape (shapes.Memory e) not = absurd (not e refl)
told_shape f not = refl

-- ---- of a kernel

pub split_refusal : (r : Request) (names : List Decl) (k : KerJob) (f : SplitFault) → IsFirstSplit names (actions k) f
    → IsKernelRefusal r names k (of_split f)
split_refusal r names k (splits.TooManyPaths n) h = (h, refl)
split_refusal r names k (splits.Memory e) h = tt

pub assign_refusal : (r : Request) (names : List Decl) (k : KerJob) (f : AssignFault) → HaveFewPaths names k → IsFirstAssign names (actions k) f
    → IsKernelRefusal r names k (of_assign f)
assign_refusal r names k (assigns.Unassigned i p) few h = (few, h, refl)
assign_refusal r names k (assigns.ReadEarly i p) few h = (few, h, refl)
assign_refusal r names k (assigns.Infinite p) few h = (few, h, refl)
assign_refusal r names k (assigns.Memory e) few h = tt

pub shape_refusal : (r : Request) (names : List Decl) (s : System) (f : ShapeFault) → IsSystem names s → IsExcess r s f
    → IsKernelRefusal r names s.ker (of_shape f)
shape_refusal r names s (shapes.TooLarge n p m) system h = (s, (refl, system, h, refl))
shape_refusal r names s (shapes.TooLong n p m) system h = (s, (refl, system, h, refl))
shape_refusal r names s (shapes.Memory e) system h = tt

-- ---- of a job with its types

pub ker_refusal : (r : Request) (job : Job) (t : Typed) (f : KerFault) → IsReduced job (Err f) → IsTypedRefusal r job t (of_ker f)
ker_refusal r job t (kernels.NotFinite p) h = (h, refl)
ker_refusal r job t (kernels.Memory e) h = tt

-- a fault of the kernel
pub kernel_refusal : (r : Request) (job : Job) (t : Typed) (k : KerJob) (f : FrontFault) → IsReducedJob job t k → IsKernelRefusal r job.names k f
    → IsTypedRefusal r job t f
kernel_refusal r job t k (front.Split f) reduced h = (k, (reduced, h))
kernel_refusal r job t k (front.Assign f) reduced h = (k, (reduced, h))
kernel_refusal r job t k (front.Shape f) reduced h = (k, (reduced, h))
kernel_refusal r job t k (front.Memory e) reduced h = tt
kernel_refusal r job t k (front.Module f) reduced h = absurd h
kernel_refusal r job t k (front.Inline f) reduced h = absurd h
kernel_refusal r job t k (front.«Type» f) reduced h = absurd h
kernel_refusal r job t k (front.Ker f) reduced h = absurd h

-- what is made of the kernel
pub of_kernel : (r : Request) (job : Job) (t : Typed) (k : KerJob) (x : Result Bounded FrontFault) → IsReducedJob job t k
    → MatchResult x (IsKernelBounded r job.names k) (IsKernelRefusal r job.names k) → MatchResult x (IsMadeBy r job t) (IsTypedRefusal r job t)
of_kernel r job t k (Ok b) reduced h = record {
  reduced = subst (IsReducedJob job t) (sym h.same) reduced;
  paths = h.paths;
  bounded = h.bounded;
}
of_kernel r job t k (Err f) reduced h = kernel_refusal r job t k f reduced h

-- ---- of a job

pub typable : (job : Job) (b : Bool) → b ≡ is_typable job → b ≡ true → IsTrue (is_typable job)
typable job b is holds = sym is ∙ holds

pub type_refusal : (r : Request) (job : Job) (f : TypeFault) → IsTrue (is_typable job) → IsTypingAnswered job (Err f)
    → IsJobRefusal r job (of_type f)
type_refusal r job (types.NotAnnotated x p) bound h = (bound, h, refl)
type_refusal r job (types.BadAnnotation p) bound h = (bound, h, refl)
type_refusal r job (types.Clash p a b ds) bound h = (bound, h, refl)
type_refusal r job (types.Memory e) bound h = tt

-- a fault behind its types
pub typed_refusal : (r : Request) (job : Job) (t : Typed) (f : FrontFault) → IsTypedJob job t → IsTypedRefusal r job t f → IsJobRefusal r job f
typed_refusal r job t (front.Ker f) typed h = (t, (typed, h))
typed_refusal r job t (front.Split f) typed h = (t, (typed, h))
typed_refusal r job t (front.Assign f) typed h = (t, (typed, h))
typed_refusal r job t (front.Shape f) typed h = (t, (typed, h))
typed_refusal r job t (front.Memory e) typed h = tt
typed_refusal r job t (front.Module f) typed h = absurd h.1.1
typed_refusal r job t (front.Inline f) typed h = absurd h.1.1
typed_refusal r job t (front.«Type» f) typed h = absurd h.1.1

-- ---- of modules

pub only_flat : (held : Option Folder) (root text : List ℕ) (flat : Flat) → text ≡ root → IsFlatModule held text flat
    → ((f : Flat) → IsTold held → IsFlatModule held text f → flat ≡ f) → IsOnlyFlat held root flat
only_flat held root text flat e joined one =
    subst (λ (x : List ℕ). IsOnlyFlat held x flat) e (record { joined = joined; only = λ told other there. sym (one other told there) })

-- where memory is wanting behind a flat module
pub stayed : (before now : ℕ) → now ≡ before → before ≤ now
stayed before now e = omega (arith, e)

module _ (held : Option Folder) (before now : ℕ) (r : Request) where
  want_or_told : (files : List (List ℕ)) (f : ModuleFault) → ((e : AllocError) × (f ≡ modules.Memory e)) ⊎ (of_module f ≡ front.Module f)
      → IsRefused held r.root (record { files = files; fault = f }) → IsCounted before now f
      → ((flat : Flat) → IsTold held → IsFlatModule held r.root flat → IsOutside f) → IsRefusal held before now r files [] (of_module f)
  want_or_told files f (inl w) refused counted apart =
      subst (λ (g : ModuleFault). IsRefusal held before now r files [] (of_module g)) (sym w.1) (subst (IsCounted before now) w.1 counted)
  want_or_told files f (inr no_want) refused counted apart =
      subst (IsRefusal held before now r files []) (sym no_want)
      (record { refused = refused; counted = counted; no_want = no_want; apart = apart }, refl)

  either : (f : ModuleFault) → ((e : AllocError) × (f ≡ modules.Memory e)) ⊎ (of_module f ≡ front.Module f)
  either (modules.Memory e) = inl (e, refl)
  either f = inr refl

  -- where there is no flat module
  pub unjoined : (files : List (List ℕ)) (f : ModuleFault) → IsRefused held r.root (record { files = files; fault = f }) → IsCounted before now f
      → ((flat : Flat) → IsTold held → IsFlatModule held r.root flat → IsOutside f) → IsRefusal held before now r files [] (of_module f)
  unjoined files f = want_or_told files f (either f)

  pub unjoined_answer : (text : List ℕ) (x : ModuleRefusal) → text ≡ r.root → IsRefused held text x → IsCounted before now x.fault
      → ((flat : Flat) → IsTold held → IsFlatModule held text flat → IsOutside x.fault)
      → IsAnswer held before now r (Err (record { files = x.files; names = []; fault = of_module x.fault }))
  unjoined_answer text x e refused counted apart =
      unjoined x.files x.fault (subst (λ (y : List ℕ). IsRefused held y x) e refused) counted
      (λ flat told joined. apart flat told (subst (λ (y : List ℕ). IsFlatModule held y flat) (sym e) joined))

  -- where this is the flat module
  module _ (flat : Flat) (one : IsOnlyFlat held r.root flat) (stay : now ≡ before) where
    pub want : (files : List (List ℕ)) (names : List Decl) (e : AllocError) → IsRefusal held before now r files names (front.Memory e)
    want files names e = stayed before now stay

    pub inline_refusal : (f : InlineFault) → IsTrue (are_known flat) → IsJobAnswered (made r flat) (Err f)
        → IsRefusal held before now r flat.files [] (of_inline f)
    inline_refusal (inlines.NoOperator x) known h = (flat, (one, (known, h, refl, refl, refl), stay))
    inline_refusal (inlines.TooLarge x n) known h = (flat, (one, (known, h, refl, refl, refl), stay))
    inline_refusal (inlines.TooDeep x) known h = (flat, (one, (known, h, refl, refl, refl), stay))
    inline_refusal (inlines.Reached g p) known h = (flat, (one, (known, h, refl, refl, refl), stay))
    inline_refusal (inlines.Memory e) known h = stayed before now stay

    -- and this its job
    module _ (job : Job) (makes : MakesJob r flat job) where
      job_refusal : (files : List (List ℕ)) (names : List Decl) (f : FrontFault) → files ≡ job.files → names ≡ job.names → IsJobRefusal r job f
          → IsRefusal held before now r files names f
      job_refusal files names (front.«Type» f) same same' h = (flat, (one, (job, (makes, h, same, same')), stay))
      job_refusal files names (front.Ker f) same same' h = (flat, (one, (job, (makes, h, same, same')), stay))
      job_refusal files names (front.Split f) same same' h = (flat, (one, (job, (makes, h, same, same')), stay))
      job_refusal files names (front.Assign f) same same' h = (flat, (one, (job, (makes, h, same, same')), stay))
      job_refusal files names (front.Shape f) same same' h = (flat, (one, (job, (makes, h, same, same')), stay))
      job_refusal files names (front.Memory e) same same' h = stayed before now stay
      job_refusal files names (front.Module f) same same' h = absurd h.1.1.1.1
      job_refusal files names (front.Inline f) same same' h = absurd h.1.1.1.1

      pub judged : (x : Result Accepted Refusal) → IsJudged r job x → IsAnswer held before now r x
      judged (Ok a) h = (
        record {
          flat = flat;
          joined = one;
          makes = subst (λ (other : Job). MakesJob r flat other) (sym h.same_job) makes;
          whole = h.whole;
          same_length = h.same_length;
          same_width = h.same_width;
          same_bounds = h.same_bounds;
        },
        stay,
      )
      judged (Err e) h = job_refusal e.files e.names e.fault h.0 h.1 h.2
