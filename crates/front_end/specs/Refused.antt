-- Why modules and a request are refused (begin with `IsAnswer`): each stage before was passed, and this one gives the cause,
-- in the order of the stages. Sources: those of what is accepted.
use Rattle.std.specs.Prelude.{◌≡◌, ◌⊎◌, ◌≤◌, ℕ, Bool, true, false, IsTrue, List, [], ◌∷◌, Option, Some, None, Result, Ok, Err}
use Rattle.assignment_finder.specs.Finding.{IsFound}
use Rattle.assignment_finder.specs.declared.assign_fault.AssignFault.{AssignFault}
use Rattle.front_end.specs.Accepted.{AreAssigned, HasFewPaths, IsAcceptedFor, IsLevelsAnswer, IsOnlyFlat, IsReducedJob, IsSystem, IsTypedJob, MakesJob, action_paths, actions, made, typed_shapes_of}
use Rattle.front_end.specs.Faults.{of_assign, of_inline, of_ker, of_module, of_shape, of_split, of_type}
use Rattle.front_end.specs.declared.fault.FrontFault.{FrontFault}
use Rattle.front_end.specs.declared.fault.FrontFault.TheVariants.{Module, Inline, «Type» as Types, Ker as Kers, Split, Assign, Shape, Memory}
use Rattle.front_end.specs.declared.fault.Refusal.{Refusal}
use Rattle.front_end.specs.declared.request.Accepted.{Accepted}
use Rattle.front_end.specs.declared.request.Request.{Request}
use Rattle.kernel_reduction.specs.Kernels.{IsReduced}
use Rattle.kernel_shapes.specs.declared.bounds.Bounds.{Bounds}
use Rattle.kernel_shapes.specs.Levels.{refused, typed_numbers}
use Rattle.kernel_shapes.specs.Systems.{system_parts}
use Rattle.kernel_trees.specs.Systems.{kinds_of_names}
use Rattle.kernel_trees.specs.TypeKinds.{Kind}
use Rattle.kernel_trees.specs.declared.action_kind.ActionKind.{ActionKind}
use Rattle.kernel_trees.specs.declared.action_kind.ActionKind.TheVariants.{Constants, Start, Step}
use Rattle.kernel_trees.specs.declared.kernel.Ker.{Ker}
use Rattle.kernel_trees.specs.declared.path.Assigned.{Assigned}
use Rattle.kernel_trees.specs.declared.path.KerPath.{KerPath}
use Rattle.kernel_trees.specs.declared.system.KerJob.{KerJob}
use Rattle.kernel_trees.specs.declared.system.System.{System}
use Rattle.op_inliner.specs.Answers.{IsAnswered as IsJobAnswered}
use Rattle.op_inliner.specs.Known.{are_known}
use Rattle.shape_bounds.specs.Stages.{IsAnswer as IsShapesAnswer}
use Rattle.shape_bounds.specs.declared.shape_fault.ShapeFault.{ShapeFault}
use Rattle.snowcat_rows.specs.declared.types.Typed.{Typed}
use Rattle.snowcat_types.specs.Answers.{IsAnswered as IsTypingAnswered, is_typable}
use Rattle.tla_meaning.specs.declared.expr.Decl.{Decl}
use Rattle.tla_meaning.specs.declared.job.Job.{Job}
use Rattle.tla_meaning.specs.declared.modules.Flat.{Flat}
use Rattle.tla_modules.specs.Answers.{IsFlatModule, IsTold}
use Rattle.tla_modules.specs.Refusals.{IsCounted, IsOutside, IsRefused}
use Rattle.tla_modules.specs.declared.fault.ModuleFault.{ModuleFault}
use Rattle.tool_outside.specs.Outside.{Folder}
use Rattle.transition_splitter.specs.Splitting.{IsSplit}
use Rattle.transition_splitter.specs.declared.split_fault.SplitFault.{SplitFault}

-- ---- paths

pub record HaveFewPaths (names : List Decl) (k : KerJob) : Type 0 where
  pub constants : HasFewPaths names (Constants, k.cinit)
  pub start : HasFewPaths names (Start, k.init)
  pub next : HasFewPaths names (Step, k.next)

-- of these actions, the first that has too many paths
abbrev pub IsFirstSplit : List Decl → List (ActionKind × Ker) → SplitFault → Type 0
IsFirstSplit names [] f = ⊥
IsFirstSplit names (a ∷ as') f = IsSplit a.0 names a.1 (Err f) ⊎ (HasFewPaths names a × IsFirstSplit names as' f)

-- of these paths, the first that has no assignments
abbrev pub IsFirstPath : ActionKind → List Decl → List KerPath → AssignFault → Type 0
IsFirstPath kind names [] f = ⊥
IsFirstPath kind names (p ∷ ps) f =
    IsFound kind names p (Err f) ⊎ (((a : Assigned) × IsFound kind names p (Ok a)) × IsFirstPath kind names ps f)

abbrev pub HasAssigned : List Decl → ActionKind × Ker → Type 0
HasAssigned names a = (as' : List Assigned) × AreAssigned a.0 names (action_paths names a) as'

-- of these actions, the first that has such a path
abbrev pub IsFirstAssign : List Decl → List (ActionKind × Ker) → AssignFault → Type 0
IsFirstAssign names [] f = ⊥
IsFirstAssign names (a ∷ as') f =
    IsFirstPath a.0 names (action_paths names a) f ⊎ (HasAssigned names a × IsFirstAssign names as' f)

-- ---- shapes

-- from a typed state, where there are bounds
abbrev pub IsTypedExcess : System → ℕ → Option Bounds → ShapeFault → Type 0
IsTypedExcess s width None f = ⊥
IsTypedExcess s width (Some b) f =
    (ks : List Kind) → kinds_of_names s.ker ≡ Some ks →
    let p = system_parts width s in IsShapesAnswer p (typed_numbers p) (typed_shapes_of s width b ks) 1 (Err f)

-- from the start; else no number there is past its limit, and one is from a typed state
abbrev pub IsExcess : Request → System → ShapeFault → Type 0
IsExcess r s f =
    IsLevelsAnswer s r.width r.length (Err f)
    ⊎ ((refused (system_parts r.width s) r.length ≡ None) × IsTypedExcess s r.width r.bounds f)

-- ---- stage by stage; what a stage tells is no want of memory, which has its own variant

-- of a kernel whose names are these
abbrev pub IsKernelRefusal : Request → List Decl → KerJob → FrontFault → Type 0
IsKernelRefusal r names k (Split f) = IsFirstSplit names (actions k) f × (of_split f ≡ Split f)
IsKernelRefusal r names k (Assign f) = HaveFewPaths names k × IsFirstAssign names (actions k) f × (of_assign f ≡ Assign f)
IsKernelRefusal r names k (Shape f) =
    (s : System) × ((s.ker ≡ k) × IsSystem names s × IsExcess r s f × (of_shape f ≡ Shape f))
IsKernelRefusal r names k (Memory e) = Unit {0}
IsKernelRefusal r names k f = ⊥

-- of a job with these types
abbrev pub IsTypedRefusal : Request → Job → Typed → FrontFault → Type 0
IsTypedRefusal r job t (Kers f) = IsReduced job (Err f) × (of_ker f ≡ Kers f)
IsTypedRefusal r job t (Memory e) = Unit {0}
IsTypedRefusal r job t f = (k : KerJob) × (IsReducedJob job t k × IsKernelRefusal r job.names k f)

abbrev pub IsJobRefusal : Request → Job → FrontFault → Type 0
IsJobRefusal r job (Types f) = IsTrue (is_typable job) × IsTypingAnswered job (Err f) × (of_type f ≡ Types f)
IsJobRefusal r job (Memory e) = Unit {0}
IsJobRefusal r job f = (t : Typed) × (IsTypedJob job t × IsTypedRefusal r job t f)

-- the files are those of the flat module, and the names are those of the job, where there is one
abbrev pub IsFlatRefusal : Request → Flat → List (List ℕ) → List Decl → FrontFault → Type 0
IsFlatRefusal r flat files names (Inline f) =
    IsTrue (are_known flat) × IsJobAnswered (made r flat) (Err f) × (of_inline f ≡ Inline f) × (files ≡ flat.files) × (names ≡ [])
IsFlatRefusal r flat files names (Memory e) = Unit {0}
IsFlatRefusal r flat files names f =
    (job : Job) × (MakesJob r flat job × IsJobRefusal r job f × (files ≡ job.files) × (names ≡ job.names))

-- there is no flat module. Files that make one, as they are told, are refused for a failed read alone.
pub record IsUnjoined (held : Option Folder) (before now : ℕ) (root : List ℕ) (files : List (List ℕ)) (f : ModuleFault) : Type 0 where
  pub refused : IsRefused held root (record { files = files; fault = f })
  pub counted : IsCounted before now f
  pub no_want : of_module f ≡ Module f
  pub apart : (flat : Flat) → IsTold held → IsFlatModule held root flat → IsOutside f

-- a failed read is told only where the count of faults rose, and every other cause but want of memory leaves it
abbrev pub IsRefusal : Option Folder → ℕ → ℕ → Request → List (List ℕ) → List Decl → FrontFault → Type 0
IsRefusal held before now r files names (Module f) = IsUnjoined held before now r.root files f × (names ≡ [])
IsRefusal held before now r files names (Memory e) = before ≤ now
IsRefusal held before now r files names f =
    (flat : Flat) × (IsOnlyFlat held r.root flat × IsFlatRefusal r flat files names f × (now ≡ before))

-- ---- the answer to a request, where the count of faults was this before and is that now

abbrev pub IsAnswer : Option Folder → ℕ → ℕ → Request → Result Accepted Refusal → Type 0
IsAnswer held before now r (Ok a) = IsAcceptedFor held r a × (now ≡ before)
IsAnswer held before now r (Err e) = IsRefusal held before now r e.files e.names e.fault

-- ---- what may come besides the one answer that the files tell: want of memory, and a read that failed

abbrev pub IsPassing : FrontFault → Type 0
IsPassing (Module f) = IsOutside f
IsPassing (Memory e) = Unit {0}
IsPassing f = ⊥

abbrev pub is_want : FrontFault → Bool
is_want (Memory e) = true
is_want f = false
