-- The transitions of a job along paths: of a step, of the start, and of a typed start. The start goes from nothing to
-- the constants, over the assumption, and to a state. Source: Specifying Systems, sections 2.3 and 14.2, for the
-- start and the assumptions; Konnov, Kukovec and Tran, "TLA+ Model Checking Made Symbolic", OOPSLA 2019, for
-- transitions along paths.
use Rattle.std.specs.Prelude.{◌≡◌, Bool, IsTrue, List, [], ◌∷◌, map, take}
use Rattle.tla_values.specs.declared.value.Value.{Value}
use Rattle.tla_meaning.specs.declared.job.Job.{Job}
use Rattle.tla_meaning.specs.declared.job.State.{State}
use Rattle.tla_meaning.specs.declared.outcome.Outcome.{Outcome}
use Rattle.tla_meaning.specs.Actions.{val}
use Rattle.tla_meaning.specs.Executions.{IsState, constants, no_scope}
use Rattle.tla_meaning.specs.Numbers.{Width}
use Rattle.kernel_trees.specs.Assignments.{AssignedPath}
use Rattle.level_laws.specs.Branches.{Ending, Held, MetWrong, MetBig, Transition}
use Rattle.level_laws.specs.Chains.{then_ends, then_goes}
use Rattle.level_laws.specs.Levels.{Start}
use Rattle.step_laws.specs.Laws.{IsNext}
use Rattle.step_laws.specs.Outcomes.{outcome_ends}
use Rattle.step_laws.specs.PathEnds.{SomeEnds}

-- ---- a step

abbrev pub StepGoes : Width → Job → List AssignedPath → Transition State State
StepGoes w job xs k s t = IsNext job s t × SomeEnds w xs k s t

-- ---- the start

-- a state with these constants
abbrev pub HasConstants : Job → List Value → State → Type 0
HasConstants job cs t = IsState job t × (take (constants job) t.vals ≡ cs)

-- along a path of CInit, which speaks of constants alone
abbrev pub ConstantsGo : Width → Job → List AssignedPath → Start (List Value)
ConstantsGo w job xs k e cs = (t : State) × (HasConstants job cs t × SomeEnds w xs k t t)

-- over the assumption, which speaks of constants alone and changes nothing
abbrev pub AssumeGoes : Width → Job → Transition (List Value) (List Value)
AssumeGoes w job k cs ds =
    (ds ≡ cs) × ((t : State) × (HasConstants job cs t × outcome_ends (val w job.assume no_scope t t) k))

abbrev pub InitGoes : Width → Job → List AssignedPath → Transition (List Value) State
InitGoes w job xs k cs t = HasConstants job cs t × SomeEnds w xs k t t

abbrev pub StartGoes : Width → Job → List AssignedPath → List AssignedPath → Start State
StartGoes w job xs ys =
    then_goes (ConstantsGo w job xs) (then_goes (AssumeGoes w job) (InitGoes w job ys) (HasConstants job))
    (HasConstants job)

-- ---- a typed start

-- expressions that are taken as a whole, one behind the other
abbrev pub all_end : List Outcome → Ending → Type 0
all_end [] Held = Unit {0}
all_end [] MetWrong = ⊥
all_end [] MetBig = ⊥
all_end (o ∷ os) k = then_ends (outcome_ends o) (all_end os) k

abbrev pub invariant_outcomes : Width → Job → State → List Outcome
invariant_outcomes w job t = map (λ e. val w e.1 no_scope t t) job.invs

abbrev pub HasTyped : (State → Bool) → Job → List Value → State → Type 0
HasTyped within job cs t = HasConstants job cs t × IsTrue (within t)

abbrev pub InvariantsGo : (State → Bool) → Width → Job → Transition (List Value) State
InvariantsGo within w job k cs t = HasTyped within job cs t × all_end (invariant_outcomes w job t) k

abbrev pub TypedGoes : (State → Bool) → Width → Job → List AssignedPath → Start State
TypedGoes within w job xs =
    then_goes (ConstantsGo w job xs) (then_goes (AssumeGoes w job) (InvariantsGo within w job) (HasTyped within job))
    (HasTyped within job)
