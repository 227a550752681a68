-- Which system stands for a job: its kernel has the outcomes of the job's parts, and its paths are those of the
-- kernel. Source: Konnov, Kukovec and Tran, "TLA+ Model Checking Made Symbolic", OOPSLA 2019, on the reduction to
-- KerA+ and on assignments.
use Rattle.std.specs.Prelude.{◌≡◌, ℕ, List, map, length}
use Rattle.tla_meaning.specs.declared.actions.Assignable.TheVariants.{Constants, Variables, PrimedVariables}
use Rattle.tla_meaning.specs.declared.job.Job.{Job}
use Rattle.tla_meaning.specs.declared.job.State.{State}
use Rattle.tla_meaning.specs.Actions.{meaning, val}
use Rattle.tla_meaning.specs.Executions.{IsState, constants, in_cinit, in_init, in_next, no_scope}
use Rattle.tla_meaning.specs.Numbers.{Width}
use Rattle.kernel_trees.specs.declared.path.Assigned.{Assigned}
use Rattle.kernel_trees.specs.declared.system.KerJob.{KerJob}
use Rattle.kernel_trees.specs.declared.system.System.{System}
use Rattle.kernel_trees.specs.Assignments.{AssignedPath}
use Rattle.kernel_trees.specs.Laws.{assigned_paths}
use Rattle.kernel_trees.specs.Trees.{ker_effect, ker_val}

abbrev pub steps_of : List Assigned → List AssignedPath
steps_of xs = map (λ x. x.steps) xs

-- the paths of a system with so many names, of which so many are constants
pub record HasPaths (names fixed : ℕ) (sys : System) : Type 0 where
  pub constants : steps_of sys.constants ≡ assigned_paths names (Constants fixed) sys.ker.cinit
  pub start : steps_of sys.start ≡ assigned_paths names (Variables fixed) sys.ker.init
  pub next : steps_of sys.next ≡ assigned_paths names (PrimedVariables fixed) sys.ker.next

-- the parts of the job and of the kernel give the same at two states
pub record GivesTheSame (w : Width) (job : Job) (k : KerJob) (s t : State) : Type 0 where
  pub cinit : (meaning w job.cinit no_scope).act (in_cinit job) s t ≡ ker_effect w (in_cinit job) k.cinit no_scope s t
  pub assume : val w job.assume no_scope s t ≡ ker_val w k.assume no_scope s t
  pub init : (meaning w job.init no_scope).act (in_init job) s t ≡ ker_effect w (in_init job) k.init no_scope s t
  pub next : (meaning w job.next no_scope).act (in_next job) s t ≡ ker_effect w (in_next job) k.next no_scope s t
  pub invs : map (λ e. val w e.1 no_scope s t) job.invs ≡ map (λ i. ker_val w i no_scope s t) k.invs

pub record StandsFor (w : Width) (job : Job) (sys : System) : Type 0 where
  pub fixed : sys.ker.fixed ≡ map (λ d. d.constant) job.names
  pub paths : HasPaths (length job.names) (constants job) sys
  pub same : (s t : State) → IsState job s → IsState job t → GivesTheSame w job sys.ker s t
