-- The questions that are asked of a level under a width, and the errors of a level by them.
use Rattle.std.specs.Prelude.{ℕ, zero, suc, ◌<◌, List, [], ◌∷◌, All}
use Rattle.tla_meaning.specs.declared.job.Job.{Job}
use Rattle.tla_meaning.specs.declared.job.State.{State}
use Rattle.tla_meaning.specs.declared.questions.Query.{Query}
use Rattle.tla_meaning.specs.declared.questions.Query.TheVariants.{StepWrong, StepBig, InvNotTrue, InvBig, AssumeBig}
use Rattle.tla_meaning.specs.declared.outcome.Outcome.{Outcome}
use Rattle.tla_meaning.specs.declared.outcome.Outcome.TheVariants.{Val, Wrong, Big}
use Rattle.tla_meaning.specs.Executions.{IsState, IsWrongOutcome, IsYes, Keeps, Reaches, invariant, next, start}
use Rattle.tla_meaning.specs.Numbers.{Width}

-- an integer was outside the width
abbrev pub IsBigOutcome : Outcome → Type 0
IsBigOutcome (Val v) = ⊥
IsBigOutcome (Wrong p) = ⊥
IsBigOutcome (Big p) = Unit {0}

-- neither TRUE nor an integer outside the width
abbrev pub IsNotTrue : Outcome → Type 0
IsNotTrue (Val v) = IsYes (Val v) → ⊥
IsNotTrue (Wrong p) = Unit {0}
IsNotTrue (Big p) = ⊥

-- the start at some state, or Next from the end of an execution of n - 1 steps to a state that keeps the constants,
-- has such an outcome
abbrev pub StepIs : (Outcome → Type 0) → Width → Job → ℕ → Type 0
StepIs Is w job zero = (s : State) × IsState job s × Is (start w job s)
StepIs Is w job (suc n) = (s : State) × (t : State) × Reaches w job n s × IsState job t × Keeps job s t × Is (next w job s t)

-- the invariants have such an outcome at the end of an execution of n steps
abbrev pub InvariantIs : (Outcome → Type 0) → Width → Job → ℕ → Type 0
InvariantIs Is w job n = (s : State) × Reaches w job n s × Is (invariant w job s)

-- the question holds at the level; AssumeBig is asked of no level
abbrev pub Holds : Query → Width → Job → ℕ → Type 0
Holds StepWrong w job n = StepIs IsWrongOutcome w job n
Holds StepBig w job n = StepIs IsBigOutcome w job n
Holds InvNotTrue w job n = InvariantIs IsNotTrue w job n
Holds InvBig w job n = InvariantIs IsBigOutcome w job n
Holds AssumeBig w job n = ⊥

-- the questions of a level that are asked before this one
abbrev pub asked_before : Query → List Query
asked_before StepWrong = []
asked_before StepBig = StepWrong ∷ []
asked_before InvNotTrue = StepWrong ∷ StepBig ∷ []
asked_before InvBig = StepWrong ∷ StepBig ∷ InvNotTrue ∷ []
asked_before AssumeBig = []

-- no question holds at the level
abbrev pub NoneHolds : Width → Job → ℕ → Type 0
NoneHolds w job n = (q : Query) → Holds q w job n → ⊥

-- no question holds at any lower level
abbrev pub NoneBelow : Width → Job → ℕ → Type 0
NoneBelow w job n = (m : ℕ) → m < n → NoneHolds w job m

-- the first question that holds, over the levels in order and over the questions of a level in theirs
pub record IsFirst (w : Width) (job : Job) (n : ℕ) (q : Query) : Type 0 where
  pub holds : Holds q w job n
  pub before : All (λ r. Holds r w job n → ⊥) (asked_before q)
  pub below : NoneBelow w job n
