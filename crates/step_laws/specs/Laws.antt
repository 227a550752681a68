-- What is asked of the paths of a job so that runs along them are its executions.
use Rattle.std.specs.Prelude.{ℕ, ◌<◌, List}
use Rattle.tla_meaning.specs.declared.job.Job.{Job}
use Rattle.tla_meaning.specs.declared.job.State.{State}
use Rattle.tla_meaning.specs.Executions.{IsState, Keeps, next}
use Rattle.tla_meaning.specs.Numbers.{Width}
use Rattle.level_laws.specs.Branches.{Ending, Held, Transition}
use Rattle.level_laws.specs.Levels.{Run, Start}
use Rattle.step_laws.specs.Origins.{Begins, Origin}
use Rattle.step_laws.specs.Outcomes.{OutcomeBy}

-- the next states that count
abbrev pub IsNext : Job → State → State → Type 0
IsNext job s t = IsState job t × Keeps job s t

-- the paths of a step lead to next states that count, and from the ends of runs of less than n steps they say what
-- the outcome of Next is; trees have their types there
pub record StepsBy (w : Width) (job : Job) (I : Start State) (P : Transition State State) (n : ℕ) : Type 0 where
  pub counts : (k : Ending) (s t : State) → P k s t → IsNext job s t
  pub law : (m : ℕ) → m < n → (ss : List State) (s t : State) → Run I P m ss s → IsNext job s t →
      OutcomeBy (λ k. P k s t) (next w job s t)

-- the start's paths lead to states that count, and say what the outcome there is
pub record StartsBy (o : Origin) (I : Start State) : Type 0 where
  pub counts : (k : Ending) (s : State) → I k tt s → o.among s
  pub law : (s : State) → o.among s → OutcomeBy (λ k. I k tt s) (o.outcome s)

-- executions begin where runs do
pub record StartsAt (o : Origin) (I : Start State) : Type 0 where
  pub up : (s : State) → Begins o s → I Held tt s
  pub down : (s : State) → I Held tt s → Begins o s
