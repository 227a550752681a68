-- A job's kernel, part by part, and what it keeps of the job: values, effects, paths, places and texts.
use Rattle.std.specs.Prelude.{◌≡◌, ℕ, IsTrue, List, [], ◌∷◌, map, length, Some, None}
use Rattle.std.specs.List.{AllByRecursion, list_any}
use Rattle.tla_values.specs.Sets.{Normal}
use Rattle.tla_meaning.specs.declared.actions.Assignable.{Assignable}
use Rattle.tla_meaning.specs.declared.expr.Expr.{Expr}
use Rattle.tla_meaning.specs.declared.job.Job.{Job}
use Rattle.tla_meaning.specs.declared.job.State.{State}
use Rattle.tla_meaning.specs.declared.place.Place.{Place}
use Rattle.tla_meaning.specs.Actions.{meaning, val}
use Rattle.tla_meaning.specs.Executions.{in_cinit, in_init, in_next, no_scope}
use Rattle.tla_meaning.specs.Numbers.{Width}
use Rattle.kernel_trees.specs.declared.kernel.Ker.{Ker}
use Rattle.kernel_trees.specs.declared.system.KerJob.{KerJob}
use Rattle.kernel_trees.specs.Paths.{Marks, marks_below}
use Rattle.kernel_trees.specs.Trees.{ker_effect, ker_val}
use Rattle.kernel_trees.specs.TypeKinds.{Kind}
use Rattle.snowcat_types.specs.Answers.{is_typable}
use Rattle.snowcat_types.specs.Systems.{parts_of}
use Rattle.kernel_trees.specs.Assignments.{reads_at}
use Rattle.kernel_reduction.specs.JobPaths.{SamePaths, tree_reads}
use Rattle.kernel_reduction.specs.Origins.{has_text, kernel_has_text, kernel_stands_at, stands_at}
use Rattle.kernel_reduction.specs.Reduction.{is_wide}
use Rattle.kernel_reduction.specs.Builds.{Builds, BuildsEach}

abbrev pub invariants_of : Job → List Expr
invariants_of job = map (λ e. e.1) job.invs

-- each part is built in its position
pub record IsBuilt (job : Job) (k : KerJob) : Type 0 where
  pub cinit : Builds (Some (in_cinit job)) [] job.cinit k.cinit
  pub assume : Builds None [] job.assume k.assume
  pub init : Builds (Some (in_init job)) [] job.init k.init
  pub next : Builds (Some (in_next job)) [] job.next k.next
  pub invs : BuildsEach None [] (invariants_of job) k.invs

abbrev pub kernel_parts_of : KerJob → List Ker
kernel_parts_of k = k.cinit ∷ k.assume ∷ k.init ∷ k.next ∷ k.invs

-- ---- values and effects

abbrev pub SameEffect : Width → Assignable → Expr → Ker → State → State → Type 0
SameEffect w m e k s t = (meaning w e no_scope).act m s t ≡ ker_effect w m k no_scope s t

-- at two states
pub record SameOutcomes (w : Width) (job : Job) (k : KerJob) (s t : State) : Type 0 where
  pub cinit : SameEffect w (in_cinit job) job.cinit k.cinit s t
  pub assume : val w job.assume no_scope s t ≡ ker_val w k.assume no_scope s t
  pub init : SameEffect w (in_init job) job.init k.init s t
  pub next : SameEffect w (in_next job) job.next k.next s t
  pub invs : map (λ e. val w e no_scope s t) (invariants_of job) ≡ map (λ k. ker_val w k no_scope s t) k.invs

-- where their values are normal, without a width and under each from 4 on
abbrev pub KeepsJobOutcomes : Job → KerJob → Width → State → State → Type 0
KeepsJobOutcomes job k w s t =
    IsBuilt job k → IsTrue (is_wide w) → AllByRecursion Normal s.vals → AllByRecursion Normal t.vals → SameOutcomes w job k s t

-- ---- paths

-- by the job's names, whatever types are told of its nodes
abbrev pub SamePathsOf : Job → Assignable → Expr → Ker → Type 0
SamePathsOf job m e k = (ks : List Kind) → SamePaths (marks_below (length job.names) m) (record { tree = e; kinds = ks; around = [] }) k

pub record SameJobPaths (job : Job) (k : KerJob) : Type 0 where
  pub cinit : SamePathsOf job (in_cinit job) job.cinit k.cinit
  pub init : SamePathsOf job (in_init job) job.init k.init
  pub next : SamePathsOf job (in_next job) job.next k.next

abbrev pub KeepsJobPaths : Job → KerJob → Type 0
KeepsJobPaths job k = IsBuilt job k → IsTrue (is_typable job) → SameJobPaths job k

-- ---- places and texts

abbrev pub KeepsJobPlaces : Job → KerJob → Place → Type 0
KeepsJobPlaces job k p =
    IsBuilt job k → IsTrue (list_any (λ k. kernel_stands_at k p) (kernel_parts_of k)) →
    IsTrue (list_any (λ e. stands_at e p) (parts_of job))

abbrev pub KeepsJobTexts : Job → KerJob → List ℕ → Type 0
KeepsJobTexts job k x =
    IsBuilt job k → IsTrue (list_any (λ k. kernel_has_text k x) (kernel_parts_of k)) →
    IsTrue (list_any (λ e. has_text e x) (parts_of job))

-- ---- names

-- a tree's names
abbrev pub SameReads : Marks → ℕ → Place → Expr → Ker → Type 0
SameReads m n p e k = tree_reads m e n p ≡ reads_at m k n p

-- the assumption and the invariants read the names that the job's read, at the same places
pub record SameJobReads (m : Marks) (n : ℕ) (p : Place) (job : Job) (k : KerJob) : Type 0 where
  pub assume : SameReads m n p job.assume k.assume
  pub invs : map (λ e. tree_reads m e n p) (invariants_of job) ≡ map (λ k. reads_at m k n p) k.invs

abbrev pub KeepsJobReads : Marks → Job → KerJob → ℕ → Place → Type 0
KeepsJobReads m job k n p = IsBuilt job k → SameJobReads m n p job k
