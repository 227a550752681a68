-- What a question's literal says, and what is known of the executions of a level, over a formula that encodes them.
-- Source: Konnov, Kukovec and Tran, "TLA+ Model Checking Made Symbolic", OOPSLA 2019, on bounded model checking.
use Rattle.std.specs.Prelude.{◌≡◌, ℕ, ◌+◌, true, List, length}
use Rattle.tla_meaning.specs.declared.job.Job.{Job}
use Rattle.tla_meaning.specs.declared.job.State.{State}
use Rattle.tla_meaning.specs.declared.questions.Query.{Query}
use Rattle.tla_meaning.specs.Numbers.{Width}
use Rattle.level_laws.specs.Constraints.{Assignment, Allowed, Constraint}
use Rattle.level_laws.specs.Levels.{QuestionReading}
use Rattle.step_laws.specs.Origins.{IsExecutionFrom, Origin}
use Rattle.step_laws.specs.Rows.{Shows}

-- where a premise holds: an assignment that makes the literal true stands for states that show the question with the
-- attempt; and states that show it with some attempt are stood for by such an assignment, with one such attempt
pub record Asks (Premise : Type 0) (q : Query) (w : Width) (job : Job) (o : Origin) (n : ℕ) (f : Constraint)
    (x : QuestionReading State State) : Type 0 where
  pub real : Premise → (a : Assignment) → f.Sat a → x.asks a ≡ true → Shows q w job o n (x.states a) (x.attempt a)
  pub missed : Premise → (states : List State) (t : State) → Shows q w job o n states t →
      Allowed f (λ a. (x.asks a ≡ true) × ((x.states a ≡ states) × Shows q w job o n states (x.attempt a)))

-- each execution of n steps is stood for, whatever is asked
abbrev pub StandsForAll : Width → Job → Origin → ℕ → Constraint → (Assignment → List State) → Type 0
StandsForAll w job o n f states_of =
    (states : List State) → IsExecutionFrom w job o states → length states ≡ n + 1 →
    Allowed f (λ a. states_of a ≡ states)
