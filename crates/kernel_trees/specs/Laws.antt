-- What an action is by its paths, and what a path reads, as laws. Source: Konnov, Kukovec and Tran, "TLA+ Model Checking Made
-- Symbolic", OOPSLA 2019, on symbolic transitions and assignments.
use Rattle.std.specs.Prelude.{ℕ, false, ◌&&◌, IsTrue, List, [], map}
use Rattle.std.specs.List.{list_all}
use Rattle.tla_values.specs.declared.value.Value.{Value}
use Rattle.tla_meaning.specs.declared.actions.Assignable.{Assignable}
use Rattle.tla_meaning.specs.declared.job.State.{State}
use Rattle.tla_meaning.specs.declared.outcome.Fault.{Fault}
use Rattle.tla_meaning.specs.Actions.{counts}
use Rattle.tla_meaning.specs.Numbers.{Width}
use Rattle.tla_meaning.specs.Scopes.{Scope}
use Rattle.kernel_trees.specs.declared.kernel.Ker.{Ker}
use Rattle.kernel_trees.specs.declared.path.AssignedStep.{AssignedStep}
use Rattle.kernel_trees.specs.declared.path.KerPath.{KerPath}
use Rattle.kernel_trees.specs.Trees.{ker_effect}
use Rattle.kernel_trees.specs.Paths.{Marks, marks_below, names_below, paths, ways}
use Rattle.kernel_trees.specs.Picks.{IsByPaths}
use Rattle.kernel_trees.specs.Scoped.{Names, scoped}
use Rattle.kernel_trees.specs.TypeKinds.{Kind, Truth, is_kind}
use Rattle.kernel_trees.specs.Sound.{Context, kind_at, sound_path, sound_tree}
use Rattle.kernel_trees.specs.Assignments.{AllHaveKinds, AllHaveSets, AssignedPath, IsByAssigned, IsByKerPaths, MeetsWith, ReadsNext, SameBut, assigned_of, open_names, reads_late}

-- by its paths, at every state and in every scope, if no number is bound again where it is bound
abbrev pub GoesByPaths : Width → Assignable → Ker → Names → Scope → State → State → Type 0
GoesByPaths w m k B sc s t = IsTrue (scoped k B) → IsByPaths w s t (ways (counts m) k) sc (ker_effect w m k sc s t)

abbrev pub job_paths : ℕ → Assignable → Ker → List KerPath
job_paths n m k = paths (marks_below n m) k

abbrev pub assigned_paths : ℕ → Assignable → Ker → List AssignedPath
assigned_paths n m k = map (assigned_of (marks_below n m)) (job_paths n m k)

-- a tree whose names are the first n
abbrev pub IsWithin : ℕ → Ker → Names → Type 0
IsWithin n k B = IsTrue (scoped k B) × IsTrue (names_below n k)

-- by those that are handed on, where guards are truth values and picks have sets
abbrev pub GoesByKerPaths : Width → Assignable → ℕ → Ker → Scope → State → State → Type 0
GoesByKerPaths w m n k sc s t =
    AllHaveKinds w s t (job_paths n m k) sc → IsByKerPaths w s t (job_paths n m k) sc (ker_effect w m k sc s t)

-- and by these with their assignments, where the names have values and are assigned from sets
abbrev pub GoesByAssigned : Width → Assignable → ℕ → Ker → Scope → State → State → Type 0
GoesByAssigned w m n k sc s t =
    ReadsNext (marks_below n m) s t → AllHaveKinds w s t (job_paths n m k) sc → AllHaveSets w s t (assigned_paths n m k) sc →
    IsByAssigned w s t (assigned_paths n m k) sc (ker_effect w m k sc s t)

-- a fault that is met with some names assigned is met at every two states that agree on these and on the unmarked names,
-- if no step reads a marked name before its assignment
abbrev pub MeetsTheSame : Width → Marks → List AssignedStep → List (List Value) → Scope → Fault → List ℕ → Type 0
MeetsTheSame w m zs vss sc f given =
    IsTrue (reads_late m [] zs) → (s t s' t' : State) → SameBut (open_names m given) s t s' t' →
    MeetsWith w s t [] zs vss sc f given → MeetsWith w s' t' [] zs vss sc f given

-- a tree that is a truth value and sound in a context has paths that are sound there
abbrev pub HasSoundPaths : List Kind → Marks → Ker → Context → Type 0
HasSoundPaths names m k c =
    IsTrue (is_kind Truth (kind_at k) && sound_tree names k c false) →
    IsTrue (list_all (λ x. sound_path names c x.steps) (paths m k))
