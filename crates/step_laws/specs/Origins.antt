-- Executions from an origin: the start of a job, or its typed states. Source: Specifying Systems, sections 2.3 and
-- 8.1.
use Rattle.std.specs.Prelude.{ℕ, zero, suc, Bool, IsTrue, List, [], ◌∷◌}
use Rattle.tla_meaning.specs.declared.job.Job.{Job}
use Rattle.tla_meaning.specs.declared.job.State.{State}
use Rattle.tla_meaning.specs.declared.outcome.Outcome.{Outcome}
use Rattle.tla_meaning.specs.Executions.{AreSteps, IsState, IsStep, IsYes, start}
use Rattle.tla_meaning.specs.Inductive.{hypothesis}
use Rattle.tla_meaning.specs.Numbers.{Width}

-- the states that count, and the outcome that is to be TRUE where an execution begins
pub record Origin : Type 1 where
  pub among : State → Type 0
  pub outcome : State → Outcome

-- the start of a job
abbrev pub the_start : Width → Job → Origin
the_start w job = record { among = λ s. IsState job s; outcome = λ s. start w job s }

-- a state within bounds at which the hypothesis holds
abbrev pub typed_start : (State → Bool) → Width → Job → Origin
typed_start within w job = record { among = λ s. IsState job s × IsTrue (within s); outcome = λ s. hypothesis w job s }

abbrev pub Begins : Origin → State → Type 0
Begins o s = o.among s × IsYes (o.outcome s)

-- the states of an execution in their order: each after the first is a step from the one before it
abbrev pub IsExecutionFrom : Width → Job → Origin → List State → Type 0
IsExecutionFrom w job o [] = ⊥
IsExecutionFrom w job o (s ∷ ss) = Begins o s × AreSteps w job s ss

-- n steps: the states before the last, of which the newest is the first, and the last
abbrev pub Reached : Width → Job → Origin → ℕ → List State → State → Type 0
Reached w job o zero [] s = Begins o s
Reached w job o (suc n) (s ∷ ss) t = Reached w job o n ss s × IsStep w job s t
Reached w job o zero (s ∷ ss) t = ⊥
Reached w job o (suc n) [] t = ⊥
