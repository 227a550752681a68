-- What a job's kernel keeps of the job's shapes, numbers and refusals, along the paths of CInit, Init and Next. Source:
-- Konnov, Kukovec and Tran, "TLA+ Model Checking Made Symbolic", OOPSLA 2019, on the static bounds of cells and arenas, and
-- on assignments.
use Rattle.std.specs.Prelude.{◌≡◌, ◌≤◌, ℕ, ℤ, IsTrue, List, [], map, Option, Some}
use Rattle.tla_meaning.specs.declared.expr.Decl.{Decl}
use Rattle.tla_meaning.specs.declared.job.Job.{Job}
use Rattle.snowcat_rows.specs.declared.types.Typed.{Typed}
use Rattle.snowcat_types.specs.Answers.{MeetsRows}
use Rattle.kernel_trees.specs.declared.action_kind.ActionKind.{ActionKind}
use Rattle.kernel_trees.specs.declared.action_kind.ActionKind.TheVariants.{Constants, Start, Step}
use Rattle.kernel_trees.specs.declared.kernel.Ker.{Ker}
use Rattle.kernel_trees.specs.declared.path.Assigned.{Assigned}
use Rattle.kernel_trees.specs.declared.system.KerJob.{KerJob}
use Rattle.kernel_trees.specs.declared.system.System.{System}
use Rattle.kernel_trees.specs.ActionNames.{marks_of}
use Rattle.kernel_trees.specs.Assignments.{marked}
use Rattle.kernel_trees.specs.Paths.{paths}
use Rattle.kernel_trees.specs.Systems.{kinds_of_names, sound_job}
use Rattle.kernel_trees.specs.TypeKinds.{Kind}
use Rattle.kernel_shapes.specs.Levels.{Parts, refused, refused_typed, shapes_at, start_shapes}
use Rattle.kernel_shapes.specs.Shape.{Shape}
use Rattle.kernel_shapes.specs.Systems.{system_parts}
use Rattle.kernel_shapes.specs.TypedStates.{typed_first}
use Rattle.kernel_reduction.specs.JobParts.{job_parts}
use Rattle.kernel_reduction.specs.Kernels.{IsKernelOf}

-- the paths of an action with their assignments
abbrev pub assigned_paths : ActionKind → List Decl → Ker → List Assigned
assigned_paths kind names k =
    map (λ x. record { place = x.place; steps = marked (marks_of kind names) [] x.steps }) (paths (marks_of kind names) k)

-- a job's kernel with its paths
abbrev pub kernel_system : Job → KerJob → System
kernel_system job k = record {
  ker = k;
  constants = assigned_paths Constants job.names k.cinit;
  start = assigned_paths Start job.names k.init;
  next = assigned_paths Step job.names k.next;
}

abbrev pub kernel_parts : ℕ → Job → KerJob → Parts
kernel_parts w job k = system_parts w (kernel_system job k)

-- ---- what is kept

-- the names have the same shapes at each level
abbrev pub HasSameShapes : Parts → Parts → ℕ → Type 0
HasSameShapes p q n = shapes_at p (start_shapes p) n ≡ shapes_at q (start_shapes q) n

-- the same level is refused for the same number, over so many levels from the start
abbrev pub HasSameRefusal : Parts → Parts → ℕ → Type 0
HasSameRefusal p q n = refused p n ≡ refused q n

-- and from a typed state of these bounds
abbrev pub HasSameTypedRefusal : Parts → Parts → ℤ → ℤ → ℕ → List Kind → Type 0
HasSameTypedRefusal p q low high size names =
    refused_typed p (typed_first low high size p names) ≡ refused_typed q (typed_first low high size q names)

-- a kernel of the job by these types, which meet the rows of the type table; so it is sound
pub record IsSoundKernelOf (job : Job) (t : Typed) (k : KerJob) : Type 0 where
  pub kernel : IsKernelOf job t k
  pub rows : MeetsRows job t
  pub sound : IsTrue (sound_job k)

abbrev pub KeepsJobShapes : ℕ → Job → Typed → KerJob → ℕ → Type 0
KeepsJobShapes w job t k n = 2 ≤ w → IsSoundKernelOf job t k → HasSameShapes (job_parts w job t) (kernel_parts w job k) n

abbrev pub KeepsJobRefusals : ℕ → Job → Typed → KerJob → ℕ → Type 0
KeepsJobRefusals w job t k n = 2 ≤ w → IsSoundKernelOf job t k → HasSameRefusal (job_parts w job t) (kernel_parts w job k) n

abbrev pub KeepsTypedRefusals : ℕ → Job → Typed → KerJob → ℤ → ℤ → ℕ → List Kind → Type 0
KeepsTypedRefusals w job t k low high size names =
    2 ≤ w → IsSoundKernelOf job t k → kinds_of_names k ≡ Some names →
    HasSameTypedRefusal (job_parts w job t) (kernel_parts w job k) low high size names
