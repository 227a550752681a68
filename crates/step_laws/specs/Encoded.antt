-- What an encoder keeps of each level: a literal of the run, the states, and a literal of each question. Source:
-- Konnov, Kukovec and Tran, "TLA+ Model Checking Made Symbolic", OOPSLA 2019, on bounded model checking.
use Rattle.std.specs.Prelude.{ℕ, zero, suc, ◌<◌, Bool, List, ◌∷◌, reverse}
use Rattle.tla_meaning.specs.declared.job.Job.{Job}
use Rattle.tla_meaning.specs.declared.job.State.{State}
use Rattle.tla_meaning.specs.declared.outcome.Outcome.{Outcome}
use Rattle.tla_meaning.specs.declared.questions.Query.{Query}
use Rattle.tla_meaning.specs.declared.questions.Query.TheVariants.{StepWrong, StepBig, InvNotTrue, InvBig, AssumeBig}
use Rattle.tla_meaning.specs.Executions.{invariant}
use Rattle.tla_meaning.specs.Numbers.{Width}
use Rattle.tla_meaning.specs.Questions.{IsBigOutcome, IsNotTrue}
use Rattle.level_laws.specs.Constraints.{Assignment, Constraint}
use Rattle.level_laws.specs.Branches.{Ending, MetWrong, MetBig, Transition}
use Rattle.level_laws.specs.Levels.{AtStart, Behind, Level, LevelReading, Question, QuestionReading, Run, Start}
use Rattle.step_laws.specs.Origins.{Origin, the_start}
use Rattle.step_laws.specs.Rows.{NoFaultHere, NoStepFault}

-- the state of a level is its attempt too: where a fault's literal is true it is a state to which no step leads
pub record Kept : Type 0 where
  pub run : LevelReading State
  pub wrong : Assignment → Bool
  pub big : Assignment → Bool
  pub not_true : Assignment → Bool
  pub inv_big : Assignment → Bool

abbrev pub literal : Query → Kept → Assignment → Bool
literal StepWrong y = y.wrong
literal StepBig y = y.big
literal InvNotTrue y = y.not_true
literal InvBig y = y.inv_big
literal AssumeBig y = y.big

-- the states in their order of which the question speaks: those before the last, or all
abbrev pub asked_states : Query → Kept → Assignment → List State
asked_states StepWrong y a = reverse (y.run.past a)
asked_states StepBig y a = reverse (y.run.past a)
asked_states InvNotTrue y a = reverse (y.run.now a ∷ y.run.past a)
asked_states InvBig y a = reverse (y.run.now a ∷ y.run.past a)
asked_states AssumeBig y a = reverse (y.run.past a)

abbrev pub question : Query → Kept → QuestionReading State State
question q y = record { asks = literal q y; states = asked_states q y; attempt = y.run.now }

-- ---- what is kept

-- the step into the level ends so: from the start into level 0, behind runs of one step less into another
abbrev pub FaultRow : Start State → Transition State State → Ending → ℕ → List State → State → Type 0
FaultRow I P k zero = AtStart (λ t. I k tt t)
FaultRow I P k (suc n) = Behind (Run I P n) (λ s t. P k s t)

abbrev pub fault_question : Kept → (Assignment → Bool) → QuestionReading State State
fault_question y asks = record { asks = asks; states = y.run.past; attempt = y.run.now }

abbrev pub invariant_question : Kept → (Assignment → Bool) → QuestionReading State State
invariant_question y asks = record { asks = asks; states = λ a. y.run.now a ∷ y.run.past a; attempt = y.run.now }

-- the invariants have such an outcome at the last state of a run
abbrev pub InvariantRow :
    (Outcome → Type 0) → Width → Job → Start State → Transition State State → ℕ → List State → State → Type 0
InvariantRow Is w job I P n = Behind (Run I P n) (λ s t. Is (invariant w job s))

pub record IsEncoded (w : Width) (job : Job) (I : Start State) (P : Transition State State) (f : Constraint) (n : ℕ)
    (y : Kept) : Type 0 where
  pub level : Level f y.run (Run I P n)
  pub wrong : Question f (fault_question y y.wrong) (FaultRow I P MetWrong n)
  pub big : Question f (fault_question y y.big) (FaultRow I P MetBig n)
  pub not_true : Question f (invariant_question y y.not_true) (InvariantRow IsNotTrue w job I P n)
  pub inv_big : Question f (invariant_question y y.inv_big) (InvariantRow IsBigOutcome w job I P n)

-- ---- what is asked before, where level 0 has typed states

-- no step is Wrong or Big: of the start of the job; of those below the level behind a typed state; and of those that
-- are asked of the level before the question
abbrev pub NoTypedFaultBefore : Query → Width → Job → Origin → ℕ → Type 0
NoTypedFaultBefore q w job o n =
    NoStepFault w job (the_start w job) 0
    × (((m : ℕ) → 0 < m → m < n → NoStepFault w job o m) × NoFaultHere q w job o n)
