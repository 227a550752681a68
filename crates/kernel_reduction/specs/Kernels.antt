-- A job's kernel: what it is, and why a job has none. Source: Konnov, Kukovec and Tran, "TLA+ Model Checking Made Symbolic",
-- OOPSLA 2019, on the reduction to KerA+.
use Rattle.std.specs.Prelude.{◌≡◌, IsTrue, map, Some, None, Result, Ok, Err}
use Rattle.tla_meaning.specs.declared.job.Job.{Job}
use Rattle.snowcat_rows.specs.declared.types.Typed.{Typed}
use Rattle.snowcat_types.specs.Answers.{MeetsRows}
use Rattle.snowcat_types.specs.Systems.{parts_of}
use Rattle.kernel_trees.specs.declared.faults.KerFault.{KerFault}
use Rattle.kernel_trees.specs.declared.faults.KerFault.TheVariants.{NotFinite, Memory}
use Rattle.kernel_trees.specs.declared.system.KerJob.{KerJob}
use Rattle.kernel_trees.specs.Systems.{parts, sound_job}
use Rattle.kernel_reduction.specs.Infinite.{IsLeastIfAny}
use Rattle.kernel_reduction.specs.Literals.{literals_of}
use Rattle.kernel_reduction.specs.SoundLaws.{AllBuilt, positions}
use Rattle.kernel_reduction.specs.WellFormed.{is_well_formed}

-- the types of the names, which of them are constants, the text literals, and each part, built in its position of all types
-- of the part; and what was asked of the job and its types
pub record IsKernelOf (job : Job) (t : Typed) (k : KerJob) : Type 0 where
  pub names : k.names ≡ t.names
  pub fixed : k.fixed ≡ map (λ d. d.constant) job.names
  pub texts : k.texts ≡ literals_of job
  pub parts : AllBuilt (positions job) (parts_of job) t.parts (parts k)
  pub well_formed : IsTrue (is_well_formed job t)

-- no infinite set stands outside a form position, or the least place of one is told
abbrev pub IsReduced : Job → Result KerJob KerFault → Type 0
IsReduced job (Ok k) = IsLeastIfAny job None
IsReduced job (Err (NotFinite p)) = IsLeastIfAny job (Some p)
IsReduced job (Err (Memory e)) = Unit {0}

-- where the types meet the rows of the type table, the kernel is sound
abbrev pub IsSoundKernel : Job → Typed → KerJob → Type 0
IsSoundKernel job t k = MeetsRows job t → IsTrue (sound_job k)
