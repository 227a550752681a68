-- What the stages behind the kernel and behind the types make.
use Rattle.std.specs.Prelude.{◌≡◌, ◌⊎◌, List, Result, Ok, Err}
use Rattle.assignment_finder.specs.declared.assign_fault.AssignFault.{AssignFault}
use Rattle.front_end.specs.Accepted.{AreAssigned, IsAccepted, IsLevelsAnswer, IsInFiles, IsReducedJob, IsSystem, IsTypedJob, KeepsTypedLimits, action_paths}
use Rattle.front_end.specs.Refused.{HaveFewPaths, IsFirstPath, IsJobRefusal}
use Rattle.front_end.specs.declared.bounding.Bounded.{Bounded}
use Rattle.front_end.specs.declared.fault.Refusal.{Refusal}
use Rattle.front_end.specs.declared.kernels.Made.{Made}
use Rattle.front_end.specs.declared.request.Accepted.{Accepted}
use Rattle.front_end.specs.declared.request.Request.{Request}
use Rattle.front_end.specs.declared.splitting.Assignments.{Assignments}
use Rattle.front_end.specs.declared.splitting.Paths.{Paths}
use Rattle.kernel_shapes.specs.declared.bounds.Shapes.{Shapes}
use Rattle.kernel_trees.specs.declared.action_kind.ActionKind.{ActionKind}
use Rattle.kernel_trees.specs.declared.action_kind.ActionKind.TheVariants.{Constants, Start, Step}
use Rattle.kernel_trees.specs.declared.path.Assigned.{Assigned}
use Rattle.kernel_trees.specs.declared.path.KerPath.{KerPath}
use Rattle.kernel_trees.specs.declared.system.KerJob.{KerJob}
use Rattle.kernel_trees.specs.declared.system.System.{System}
use Rattle.snowcat_rows.specs.declared.types.Typed.{Typed}
use Rattle.tla_meaning.specs.declared.expr.Decl.{Decl}
use Rattle.tla_meaning.specs.declared.job.Job.{Job}

-- the paths of the three actions, few each
pub record AreSplit (names : List Decl) (k : KerJob) (ps : Paths) : Type 0 where
  pub constants : ps.constants ≡ action_paths names (Constants, k.cinit)
  pub start : ps.start ≡ action_paths names (Start, k.init)
  pub next : ps.next ≡ action_paths names (Step, k.next)
  pub few : HaveFewPaths names k

-- these paths have assignments
abbrev pub HasAll : ActionKind → List Decl → List KerPath → Type 0
HasAll kind names ps = (as' : List Assigned) × AreAssigned kind names ps as'

-- with their assignments
pub record AreAllAssigned (names : List Decl) (ps : Paths) (as' : Assignments) : Type 0 where
  pub constants : AreAssigned Constants names ps.constants as'.constants
  pub start : AreAssigned Start names ps.start as'.start
  pub next : AreAssigned Step names ps.next as'.next

-- the first of their paths that has no assignments
abbrev pub IsFirstUnassigned : List Decl → Paths → AssignFault → Type 0
IsFirstUnassigned names ps f =
    IsFirstPath Constants names ps.constants f
    ⊎ (HasAll Constants names ps.constants
    × (IsFirstPath Start names ps.start f ⊎ (HasAll Start names ps.start × IsFirstPath Step names ps.next f)))

-- the shapes of a system, within the limits
pub record IsBounded (r : Request) (s : System) (x : Shapes) : Type 0 where
  pub shapes : IsLevelsAnswer s r.width r.length (Ok x)
  pub typed_limits : KeepsTypedLimits s r.width r.bounds

-- those of a kernel whose names are these
pub record IsKernelBounded (r : Request) (names : List Decl) (k : KerJob) (b : Bounded) : Type 0 where
  pub same : b.system.ker ≡ k
  pub paths : IsSystem names b.system
  pub bounded : IsBounded r b.system b.shapes

-- the kernel of a job with these types
pub record IsMadeBy (r : Request) (job : Job) (t : Typed) (b : Bounded) : Type 0 where
  pub reduced : IsReducedJob job t b.system.ker
  pub paths : IsSystem job.names b.system
  pub bounded : IsBounded r b.system b.shapes

-- what is made of a job
pub record IsMade (r : Request) (job : Job) (m : Made) : Type 0 where
  pub placed : IsInFiles job
  pub typed : IsTypedJob job m.typed
  pub by : IsMadeBy r job m.typed m.bounded

-- what is answered of a job
pub record IsJobAccepted (r : Request) (job : Job) (a : Accepted) : Type 0 where
  pub same_job : a.job ≡ job
  pub whole : IsAccepted a
  pub same_length : a.length ≡ r.length
  pub same_width : a.width ≡ r.width
  pub same_bounds : a.bounds ≡ r.bounds

abbrev pub IsJudged : Request → Job → Result Accepted Refusal → Type 0
IsJudged r job (Ok a) = IsJobAccepted r job a
IsJudged r job (Err e) = (e.files ≡ job.files) × (e.names ≡ job.names) × IsJobRefusal r job e.fault
