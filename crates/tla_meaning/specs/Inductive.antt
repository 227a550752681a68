-- Inductive errors: one step from any state within bounds at which the assumptions and the invariants hold.
use Rattle.std.specs.Prelude.{Bool, List, [], ◌∷◌, map, None, All, IsTrue}
use Rattle.tla_meaning.specs.declared.job.Job.{Job}
use Rattle.tla_meaning.specs.declared.job.State.{State}
use Rattle.tla_meaning.specs.declared.questions.Query.{Query}
use Rattle.tla_meaning.specs.declared.questions.Query.TheVariants.{StepWrong, StepBig, InvNotTrue, InvBig, AssumeBig}
use Rattle.tla_meaning.specs.declared.outcome.Outcome.{Outcome}
use Rattle.tla_meaning.specs.Actions.{effect_of, effects_and, meaning, outcome_of, val}
use Rattle.tla_meaning.specs.Executions.{Errs, IsState, IsWrongOutcome, IsYes, Keeps, in_cinit, invariant, next, no_scope}
use Rattle.tla_meaning.specs.Numbers.{Width}
use Rattle.tla_meaning.specs.Questions.{IsBigOutcome, IsNotTrue, NoneHolds, asked_before}

-- the hypothesis: CInit, the assumptions and the invariants in order
abbrev pub hypothesis : Width → Job → State → Outcome
hypothesis w job s =
    outcome_of (effects_and (
    (meaning w job.cinit no_scope).act (in_cinit job) s s
    ∷ effect_of (val w job.assume no_scope s s)
    ∷ map (λ e. effect_of (val w e.1 no_scope s s)) job.invs
    ))

-- a state whose variables are within the bounds and at which the hypothesis is TRUE
pub record IsTypedStart (within : State → Bool) (w : Width) (job : Job) (s : State) : Type 0 where
  pub state : IsState job s
  pub bounds : IsTrue (within s)
  pub holds : IsYes (hypothesis w job s)

-- an error of level 0; or from a typed start Next applies an operator outside its domain, or leads to a state at which
-- an invariant is not TRUE
pub data IsInductiveError (within : State → Bool) (job : Job) : Type 0 where
  StartErrs : Errs job 0 → IsInductiveError within job
  TypedStepErrs : (s t : State) → IsTypedStart within None job s → IsState job t → Keeps job s t
      → IsWrongOutcome (next None job s t) → IsInductiveError within job
  TypedInvariantErrs : (s t : State) → IsTypedStart within None job s → IsState job t → Keeps job s t
      → IsYes (next None job s t) → (IsYes (invariant None job t) → ⊥) → IsInductiveError within job

-- Next from a typed start to a state that keeps the constants has such an outcome
abbrev pub TypedStepIs : (Outcome → Type 0) → (State → Bool) → Width → Job → Type 0
TypedStepIs Is within w job =
    (s : State) × (t : State) × IsTypedStart within w job s × IsState job t × Keeps job s t × Is (next w job s t)

-- the invariants have such an outcome at a state to which Next leads from a typed start
abbrev pub TypedInvariantIs : (Outcome → Type 0) → (State → Bool) → Width → Job → Type 0
TypedInvariantIs Is within w job =
    (s : State) × (t : State) × IsTypedStart within w job s × IsState job t × Keeps job s t
    × IsYes (next w job s t) × Is (invariant w job t)

-- the question holds of the typed states
abbrev pub TypedHolds : Query → (State → Bool) → Width → Job → Type 0
TypedHolds AssumeBig within w job = (s : State) × IsState job s × IsTrue (within s) × IsBigOutcome (hypothesis w job s)
TypedHolds StepWrong within w job = TypedStepIs IsWrongOutcome within w job
TypedHolds StepBig within w job = TypedStepIs IsBigOutcome within w job
TypedHolds InvNotTrue within w job = TypedInvariantIs IsNotTrue within w job
TypedHolds InvBig within w job = TypedInvariantIs IsBigOutcome within w job

-- the typed questions that are asked before this one: AssumeBig first, and then in the order of a level
abbrev pub asked_before_typed : Query → List Query
asked_before_typed AssumeBig = []
asked_before_typed q = AssumeBig ∷ asked_before q

-- no typed question holds
abbrev pub NoneHoldsTyped : (State → Bool) → Width → Job → Type 0
NoneHoldsTyped within w job = (q : Query) → TypedHolds q within w job → ⊥

-- the first question that holds is this typed one: those of level 0 are asked before all of them
pub record IsFirstTyped (within : State → Bool) (w : Width) (job : Job) (q : Query) : Type 0 where
  pub holds : TypedHolds q within w job
  pub before : All (λ r. TypedHolds r within w job → ⊥) (asked_before_typed q)
  pub level : NoneHolds w job 0
