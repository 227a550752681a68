-- The rows of the questions: which states, with which attempt, show that a question of a level holds.
use Rattle.std.specs.Prelude.{◌≡◌, ℕ, zero, suc, ◌+◌, ◌<◌, List, [], length, Some}
use Rattle.tla_meaning.specs.declared.job.Job.{Job}
use Rattle.tla_meaning.specs.declared.job.State.{State}
use Rattle.tla_meaning.specs.declared.questions.Query.{Query}
use Rattle.tla_meaning.specs.declared.questions.Query.TheVariants.{StepWrong, StepBig, InvNotTrue, InvBig, AssumeBig}
use Rattle.tla_meaning.specs.declared.outcome.Outcome.{Outcome}
use Rattle.tla_meaning.specs.Executions.{IsState, IsWrongOutcome, Keeps, invariant, last_of, next}
use Rattle.tla_meaning.specs.Numbers.{Width}
use Rattle.tla_meaning.specs.Questions.{IsBigOutcome, IsNotTrue}
use Rattle.level_laws.specs.Levels.{AtStart, Behind}
use Rattle.step_laws.specs.Origins.{Origin, IsExecutionFrom, Reached}

-- ---- states in the order of the execution

-- the execution has so many steps, and this holds of its last state
pub record EndsWith (w : Width) (job : Job) (o : Origin) (n : ℕ) (states : List State)
    (Q : State → Type 0) : Type 0 where
  pub execution : IsExecutionFrom w job o states
  pub steps : length states ≡ n + 1
  pub last : State
  pub ends : last_of states ≡ Some last
  pub so : Q last

-- Next has such an outcome from s to t, which keeps the constants
abbrev pub NextIs : (Outcome → Type 0) → Width → Job → State → State → Type 0
NextIs Is w job s t = IsState job t × (Keeps job s t × Is (next w job s t))

-- the attempt is a state at which the origin has such an outcome, where there is no execution; or one to which Next
-- has it from the execution's last state
abbrev pub StepShows : (Outcome → Type 0) → Width → Job → Origin → ℕ → List State → State → Type 0
StepShows Is w job o zero states t = (states ≡ []) × (o.among t × Is (o.outcome t))
StepShows Is w job o (suc n) states t = EndsWith w job o n states (λ s. NextIs Is w job s t)

-- the invariants have such an outcome at the execution's last state
abbrev pub InvariantShows : (Outcome → Type 0) → Width → Job → Origin → ℕ → List State → Type 0
InvariantShows Is w job o n states = EndsWith w job o n states (λ s. Is (invariant w job s))

-- the states, with the attempt, show that the question holds at the level; an assumption is part of an origin, and is
-- Big at level 0 alone
abbrev pub Shows : Query → Width → Job → Origin → ℕ → List State → State → Type 0
Shows StepWrong w job o n states t = StepShows IsWrongOutcome w job o n states t
Shows StepBig w job o n states t = StepShows IsBigOutcome w job o n states t
Shows InvNotTrue w job o n states t = InvariantShows IsNotTrue w job o n states
Shows InvBig w job o n states t = InvariantShows IsBigOutcome w job o n states
Shows AssumeBig w job o zero states t = StepShows IsBigOutcome w job o zero states t
Shows AssumeBig w job o (suc n) states t = ⊥

-- ---- what is asked before

abbrev pub NoneShows : Query → Width → Job → Origin → ℕ → Type 0
NoneShows q w job o n = (states : List State) (t : State) → Shows q w job o n states t → ⊥

-- no step into the level, from the start into level 0, is Wrong or Big
abbrev pub NoStepFault : Width → Job → Origin → ℕ → Type 0
NoStepFault w job o n = NoneShows StepWrong w job o n × NoneShows StepBig w job o n

-- none of those that are asked of the level before the question
abbrev pub NoFaultHere : Query → Width → Job → Origin → ℕ → Type 0
NoFaultHere StepWrong w job o n = Unit {0}
NoFaultHere StepBig w job o n = NoneShows StepWrong w job o n
NoFaultHere InvNotTrue w job o n = NoStepFault w job o n
NoFaultHere InvBig w job o n = NoStepFault w job o n
NoFaultHere AssumeBig w job o n = Unit {0}

-- none of level 0 or of a lower level
abbrev pub NoFaultBefore : Query → Width → Job → Origin → ℕ → Type 0
NoFaultBefore q w job o n = ((m : ℕ) → m < n → NoStepFault w job o m) × NoFaultHere q w job o n

-- ---- states from the newest to the oldest

abbrev pub StartRow : (Outcome → Type 0) → Origin → List State → State → Type 0
StartRow Is o = AtStart (λ t. o.among t × Is (o.outcome t))

abbrev pub StepRow : (Outcome → Type 0) → Width → Job → Origin → ℕ → List State → State → Type 0
StepRow Is w job o n = Behind (Reached w job o n) (NextIs Is w job)

abbrev pub StateRow : {T : Type 0} → (Outcome → Type 0) → Width → Job → Origin → ℕ → List State → T → Type 0
StateRow Is w job o n = Behind (Reached w job o n) (λ s t. Is (invariant w job s))
