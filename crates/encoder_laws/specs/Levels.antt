-- What a level's cells and literals say under an assignment. Source: Konnov, Kukovec and Tran, "TLA+ Model Checking
-- Made Symbolic", OOPSLA 2019, on bounded model checking.
use Rattle.std.specs.Prelude.{◌≡◌, ℕ, ◌+◌, Bool, List, All, map, take, length, reverse}
use Rattle.sat_formula.specs.declared.cnf.Cnf.{Cnf}
use Rattle.sat_formula.specs.Lit.{lit_value}
use Rattle.tla_values.specs.declared.value.Value.TheVariants as value
use Rattle.tla_meaning.specs.declared.job.Job.{Job}
use Rattle.tla_meaning.specs.declared.job.State.{State}
use Rattle.tla_meaning.specs.declared.outcome.Outcome.{Outcome}
use Rattle.tla_meaning.specs.declared.outcome.Outcome.TheVariants.{Val, Wrong, Big}
use Rattle.tla_meaning.specs.declared.questions.Query.{Query}
use Rattle.tla_meaning.specs.declared.questions.Query.TheVariants.{StepWrong, StepBig, InvNotTrue, InvBig, AssumeBig}
use Rattle.tla_meaning.specs.Actions.{val}
use Rattle.tla_meaning.specs.Executions.{IsExecution, no_scope}
use Rattle.tla_meaning.specs.Numbers.{Width}
use Rattle.cell_arena.specs.Cells.{Cells as Arena}
use Rattle.kernel_trees.specs.declared.system.System.{System}
use Rattle.level_laws.specs.Branches.{Transition}
use Rattle.level_laws.specs.Constraints.{Allowed, of_formula}
use Rattle.level_laws.specs.Levels.{Run, Start}
use Rattle.step_laws.specs.Asked.{Asks}
use Rattle.step_laws.specs.Encoded.{IsEncoded, Kept, asked_states, question}
use Rattle.step_laws.specs.Laws.{StartsBy, StepsBy}
use Rattle.step_laws.specs.Origins.{the_start}
use Rattle.step_laws.specs.Rows.{NoFaultBefore}
use Rattle.step_laws.specs.Systems.{steps_of}
use Rattle.step_laws.specs.Transitions.{StartGoes, StepGoes}
use Rattle.step_branches.specs.Readings.{state_at}
use Rattle.encoder_laws.specs.declared.level.LevelCells.{LevelCells}

-- what is read of level n: the states of the levels before it, the newest first, its own, and its literals
abbrev pub kept_at : Arena → List LevelCells → ℕ → LevelCells → Kept
kept_at c levels n x = record {
  run = record {
    on = lit_value x.run;
    past = λ a. reverse (map (λ y. state_at c y.cells a) (take n levels));
    now = state_at c x.cells;
  };
  wrong = lit_value x.step_wrong;
  big = lit_value x.step_big;
  not_true = lit_value x.not_true;
  inv_big = lit_value x.inv_big;
}

-- the start and the steps of a job along the paths of a system
abbrev pub start_along : Width → Job → System → Start State
start_along w job s = StartGoes w job (steps_of s.constants) (steps_of s.start)

abbrev pub step_along : Width → Job → System → Transition State State
step_along w job s = StepGoes w job (steps_of s.next)

-- no value but a truth value
abbrev pub IsTruthOutcome : Outcome → Type 0
IsTruthOutcome (Val v) = (b : Bool) × (v ≡ value.Bool b)
IsTruthOutcome (Wrong p) = Unit {0}
IsTruthOutcome (Big p) = Unit {0}

-- the invariants are truth values at the state, where they are values
abbrev pub HaveTruths : Width → Job → State → Type 0
HaveTruths w job s = All (λ e. IsTruthOutcome (val w e.1 no_scope s s)) job.invs

-- The literals of level n say what they are to say of runs along the paths, and runs are executions where no step has a
-- fault; at the ends of runs invariants are truth values.
pub record IsLevelOf (w : Width) (job : Job) (s : System) (f : Cnf) (n : ℕ) (x : Kept) : Type 0 where
  pub encoded : IsEncoded w job (start_along w job s) (step_along w job s) (of_formula f) n x
  pub starts : StartsBy (the_start w job) (start_along w job s)
  pub steps : StepsBy w job (start_along w job s) (step_along w job s) n
  pub truths : (ss : List State) (t : State) → Run (start_along w job s) (step_along w job s) n ss t →
      HaveTruths w job t

-- ---- questions

-- how many states the executions have of which a question of level n speaks
abbrev pub states_asked : Query → ℕ → ℕ
states_asked StepWrong n = n
states_asked StepBig n = n
states_asked InvNotTrue n = n + 1
states_asked InvBig n = n + 1
states_asked AssumeBig n = 0

-- The literal of the question asks it of the level, where no step that is asked of before is Wrong or Big; and each
-- execution of which the question speaks is stood for, whatever is asked.
pub record AsksOf (w : Width) (job : Job) (f : Cnf) (n : ℕ) (q : Query) (x : Kept) : Type 0 where
  pub asks : Asks (NoFaultBefore q w job (the_start w job) n) q w job (the_start w job) n (of_formula f) (question q x)
  pub executions : (states : List State) → IsExecution w job states → length states ≡ states_asked q n →
      Allowed (of_formula f) (λ a. asked_states q x a ≡ states)
