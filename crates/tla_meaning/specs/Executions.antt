-- The start, the executions and the errors of a job (Specifying Systems, sections 2.3 and 8.1).
use Rattle.std.specs.Prelude.{ℕ, suc, ◌+◌, ◌≡◌, Bool, true, false, List, [], ◌∷◌, map, filter, length, take, Option, Some, None, IsTrue, ⊤, All}
use Rattle.tla_values.specs.Sets.{Normal}
use Rattle.tla_values.specs.declared.value.Value.{out-Value}
use Rattle.tla_meaning.specs.declared.actions.Assignable.{Assignable}
use Rattle.tla_meaning.specs.declared.actions.Assignable.TheVariants.{Constants, Variables, PrimedVariables}
use Rattle.tla_meaning.specs.declared.expr.Decl.{Decl}
use Rattle.tla_meaning.specs.declared.job.Env.{Env}
use Rattle.tla_meaning.specs.declared.job.Job.{Job}
use Rattle.tla_meaning.specs.declared.job.State.{State}
use Rattle.tla_meaning.specs.declared.outcome.Outcome.{Outcome}
use Rattle.tla_meaning.specs.declared.outcome.Outcome.TheVariants.{Val, Wrong, Big}
use Rattle.tla_meaning.specs.Numbers.{Width}
use Rattle.tla_meaning.specs.Operators.{yes_no}
use Rattle.tla_meaning.specs.Scopes.{Scope}
use Rattle.tla_meaning.specs.Actions.{val, act, meaning, effect_of, effects_and, outcome_of, is_true}

-- the scope of an environment
abbrev pub scope_of : Env → Scope
scope_of env = record { bound = env.vals; named = [] }

abbrev pub no_scope : Scope
no_scope = record { bound = []; named = [] }

-- how many of the names are constants, which stand first
abbrev pub constants : Job → ℕ
constants job = length (filter (λ (d : Decl). d.constant) job.names)

-- the names that count as assigned in CInit, in Init and in Next
abbrev pub in_cinit : Job → Assignable
in_cinit job = Constants (constants job)

abbrev pub in_init : Job → Assignable
in_init job = Variables (constants job)

abbrev pub in_next : Job → Assignable
in_next job = PrimedVariables (constants job)

-- the start: CInit, the assumptions taken as an expression, and Init
abbrev pub start : Width → Job → State → Outcome
start w job s =
    outcome_of (effects_and (
    (meaning w job.cinit no_scope).act (in_cinit job) s s
    ∷ effect_of (val w job.assume no_scope s s)
    ∷ (meaning w job.init no_scope).act (in_init job) s s
    ∷ []
    ))

abbrev pub next : Width → Job → State → State → Outcome
next w job s t = act w (in_next job) job.next no_scope s t

abbrev pub is_yes : Outcome → Bool
is_yes (Val v) = is_true (out-Value v)
is_yes (Wrong p) = false
is_yes (Big p) = false

abbrev pub IsYes : Outcome → Type 0
IsYes o = IsTrue (is_yes o)

abbrev pub IsWrongOutcome : Outcome → Type 0
IsWrongOutcome (Val v) = ⊥
IsWrongOutcome (Wrong p) = Unit {0}
IsWrongOutcome (Big p) = ⊥

-- a state has a value for each name
pub record IsState (job : Job) (s : State) : Type 0 where
  pub fills : length s.vals ≡ length job.names
  pub normal : All Normal s.vals

-- the constants stay
abbrev pub Keeps : Job → State → State → Type 0
Keeps job s t = take (constants job) s.vals ≡ take (constants job) t.vals

-- Next is TRUE between the two states, and the constants stay
pub record IsStep (w : Width) (job : Job) (s t : State) : Type 0 where
  pub state : IsState job t
  pub keeps : Keeps job s t
  pub steps : IsYes (next w job s t)

-- each state after the first is a step from the one before it
abbrev pub AreSteps : Width → Job → State → List State → Type 0
AreSteps w job s [] = ⊤
AreSteps w job s (t ∷ ts) = IsStep w job s t × AreSteps w job t ts

-- an execution: the start is TRUE at the first state, and each further state is a step from the one before it
abbrev pub IsExecution : Width → Job → List State → Type 0
IsExecution w job [] = ⊥
IsExecution w job (s ∷ ss) = IsState job s × IsYes (start w job s) × AreSteps w job s ss

-- the last of the states
abbrev pub last_of : {X : Type 0} → List X → Option X
last_of [] = None
last_of (s ∷ []) = Some s
last_of (s ∷ t ∷ ts) = last_of (t ∷ ts)

-- an execution of n steps that ends in the state
pub record Reaches (w : Width) (job : Job) (n : ℕ) (s : State) : Type 0 where
  pub states : List State
  pub execution : IsExecution w job states
  pub steps : length states ≡ n + 1
  pub ends : last_of states ≡ Some s

-- the first invariant that is not TRUE, else TRUE
abbrev pub first_not_yes : List Outcome → Outcome
first_not_yes [] = yes_no true
first_not_yes (o ∷ os) = elim (is_yes o) [ true ↦ first_not_yes os | false ↦ o ]

abbrev pub invariant : Width → Job → State → Outcome
invariant w job s = first_not_yes (map (λ e. val w e.1 no_scope s s) job.invs)

-- level n errs: the start or a step from an execution applies an operator outside its domain, or an invariant is
-- not TRUE at the end of an execution of n steps
pub data Errs (job : Job) : ℕ → Type 0 where
  StartIsWrong : (s : State) → IsState job s → IsWrongOutcome (start None job s) → Errs job 0
  StepIsWrong : {n : ℕ} (s t : State) → Reaches None job n s → IsState job t → Keeps job s t →
      IsWrongOutcome (next None job s t) → Errs job (suc n)
  InvariantIsNotTrue : {n : ℕ} (s : State) → Reaches None job n s → (IsYes (invariant None job s) → ⊥) → Errs job n
