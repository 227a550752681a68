-- What a check of a job's levels finds (Specifying Systems, sections 2.3 and 8.1, for executions; chapter 16 for
-- operators outside of their domains). Integers have `w` bits where a width is meant; an execution without a width is
-- one of the specification itself.
use Rattle.std.specs.Prelude.{◌≡◌, ℕ, ◌+◌, ◌<◌, ◌≤◌, List, [], ◌∷◌, ◌++◌, length, All, Option, Some, None, false}
use Rattle.snowcat_rows.specs.declared.types.Ty.{Ty}
use Rattle.tla_meaning.specs.declared.expr.Expr.{Expr}
use Rattle.tla_meaning.specs.declared.job.Job.{Job}
use Rattle.tla_meaning.specs.declared.job.State.{State}
use Rattle.tla_meaning.specs.declared.outcome.Outcome.{Outcome}
use Rattle.tla_meaning.specs.declared.outcome.Outcome.TheVariants.{Wrong, Big}
use Rattle.tla_meaning.specs.declared.place.Place.{Place}
use Rattle.tla_meaning.specs.declared.questions.Query.{Query}
use Rattle.tla_meaning.specs.declared.questions.Query.TheVariants as query
use Rattle.tla_meaning.specs.Actions.{val}
use Rattle.tla_meaning.specs.Executions.{IsState, IsExecution, IsYes, Errs, Keeps, last_of, next, no_scope, start}
use Rattle.tla_meaning.specs.Numbers.{Width}
use Rattle.tla_meaning.specs.Operators.{yes_no}
use Rattle.tla_meaning.specs.Questions.{IsFirst, NoneBelow}
use Rattle.trace_decoder.specs.Typed.{HaveTypes}
use Rattle.trace_text.specs.declared.verdict.Fault.{Fault}
use Rattle.trace_text.specs.declared.verdict.Fault.TheVariants.{InvFalse, InvWrong, StartWrong, StepWrong}
use Rattle.trace_text.specs.declared.verdict.Part.{Part}
use Rattle.trace_text.specs.declared.verdict.Part.TheVariants as part
use Rattle.trace_text.specs.declared.verdict.Trace.{Trace}
use Rattle.trace_text.specs.declared.verdict.Verdict.{Verdict}
use Rattle.trace_text.specs.declared.verdict.Verdict.TheVariants.{Clean, Inductive, Error}
use Rattle.trace_text.specs.declared.verdict.Verdict.TheVariants.{Overflow, Spent, NotInductive}
use Rattle.trace_text.specs.declared.verdict.Where.TheVariants.{Level, Typed}

-- ---- traces

-- an execution of so many states, also where no integer is outside the width, and its last state
pub record IsRunOf (w : Width) (job : Job) (count : ℕ) (states : List State) (last : State) : Type 0 where
  pub execution : IsExecution None job states
  pub within : IsExecution w job states
  pub length : length states ≡ count
  pub ends : last_of states ≡ Some last

-- level 0: the attempt is a state at which the start gives this outcome, and there is no other state
pub record StartGives (w : Width) (job : Job) (n : ℕ) (o : Outcome) (t : Trace) : Type 0 where
  pub level : n ≡ 0
  pub states : t.states ≡ []
  pub attempt : State
  pub attempt_is : t.attempt ≡ Some attempt
  pub state : IsState job attempt
  pub gives : start w job attempt ≡ o

-- a level above 0: the states are an execution of one step less, and the attempt is a state with the same constants to
-- which Next gives this outcome from the last of them
pub record StepGives (w : Width) (job : Job) (n : ℕ) (o : Outcome) (t : Trace) : Type 0 where
  pub level : 0 < n
  pub last : State
  pub run : IsRunOf w job n t.states last
  pub attempt : State
  pub attempt_is : t.attempt ≡ Some attempt
  pub state : IsState job attempt
  pub keeps : Keeps job last attempt
  pub gives : next w job last attempt ≡ o

-- the first invariant that is not TRUE at the state has this name, and gives this outcome
pub record IsFirstBroken (w : Width) (job : Job) (s : State) (name : List ℕ) (o : Outcome) : Type 0 where
  pub before : List (List ℕ × Expr)
  pub broken : Expr
  pub behind : List (List ℕ × Expr)
  pub invariants : job.invs ≡ before ++ (name, broken) ∷ behind
  pub hold : All (λ e. IsYes (val w e.1 no_scope s s)) before
  pub gives : val w broken no_scope s s ≡ o
  pub not_true : IsYes o → ⊥

-- the states are an execution of so many steps as the level, and at the last one an invariant is broken so
pub record InvariantGives (w : Width) (job : Job) (n : ℕ) (name : List ℕ) (o : Outcome) (t : Trace) : Type 0 where
  pub last : State
  pub run : IsRunOf w job (n + 1) t.states last
  pub attempt : t.attempt ≡ None
  pub first : IsFirstBroken w job last name o

-- the trace shows the fault, at the place that the meaning under the width gives
abbrev pub ShowsFault : Width → Job → ℕ → Fault → Trace → Type 0
ShowsFault w job n (StartWrong p) t = StartGives w job n (Wrong p) t
ShowsFault w job n (StepWrong p) t = StepGives w job n (Wrong p) t
ShowsFault w job n (InvFalse name) t = InvariantGives w job n name (yes_no false) t
ShowsFault w job n (InvWrong name p) t = InvariantGives w job n name (Wrong p) t

-- the trace shows that a part computes an integer outside the width. At a level the assumptions are part of the start.
abbrev pub ShowsBig : Width → Job → ℕ → Part → Place → Trace → Type 0
ShowsBig w job n part.Start p t = StartGives w job n (Big p) t
ShowsBig w job n part.Step p t = StepGives w job n (Big p) t
ShowsBig w job n (part.Inv name) p t = InvariantGives w job n name (Big p) t
ShowsBig w job n part.Assumption p t = ⊥

-- ---- the values of a verdict's states

-- the states of a trace, the attempt last
abbrev pub states_of : Trace → List State
states_of t = t.states ++ elim t.attempt [ None ↦ [] | Some s ↦ s ∷ [] ]

abbrev pub states_told : Verdict → List State
states_told (Error n fault t) = states_of t
states_told (Overflow at part p t) = states_of t
states_told (NotInductive fault t) = states_of t
states_told (Clean n) = []
states_told (Spent conflicts at) = []
states_told Inductive = []

-- each value has its name's type
abbrev pub AreTyped : List Ty → List State → Type 0
AreTyped types states = All (λ s. HaveTypes types s.vals) states

-- ---- the places of a verdict

abbrev pub places_of_fault : Fault → List Place
places_of_fault (StartWrong p) = p ∷ []
places_of_fault (StepWrong p) = p ∷ []
places_of_fault (InvFalse name) = []
places_of_fault (InvWrong name p) = p ∷ []

abbrev pub places_told : Verdict → List Place
places_told (Error n fault t) = places_of_fault fault
places_told (Overflow at part p t) = p ∷ []
places_told (NotInductive fault t) = places_of_fault fault
places_told (Clean n) = []
places_told (Spent conflicts at) = []
places_told Inductive = []

-- the file of each place is one of the job's files
abbrev pub AreInFiles : Job → List Place → Type 0
AreInFiles job places = All (λ p. p.file < length job.files) places

-- ---- the questions of which verdicts tell

abbrev pub query_of_fault : Fault → Query
query_of_fault (StartWrong p) = query.StepWrong
query_of_fault (StepWrong p) = query.StepWrong
query_of_fault (InvFalse name) = query.InvNotTrue
query_of_fault (InvWrong name p) = query.InvNotTrue

abbrev pub query_of_part : Part → Query
query_of_part part.Start = query.StepBig
query_of_part part.Step = query.StepBig
query_of_part (part.Inv name) = query.InvBig
query_of_part part.Assumption = query.AssumeBig

-- the verdict is that this question of level n holds
abbrev pub Tells : ℕ → Query → Verdict → Type 0
Tells n q (Error m fault t) = (m ≡ n) × (query_of_fault fault ≡ q)
Tells n q (Overflow (Level m) part p t) = (m ≡ n) × (query_of_part part ≡ q)
Tells n q (Overflow Typed part p t) = ⊥
Tells n q (Clean m) = ⊥
Tells n q (Spent conflicts at) = ⊥
Tells n q Inductive = ⊥
Tells n q (NotInductive fault t) = ⊥

-- the verdict is that a budget was given and spent, at a level that is not higher
abbrev pub IsSpentBy : Option ℕ → ℕ → Verdict → Type 0
IsSpentBy budget n (Spent conflicts (Level m)) = (budget ≡ Some conflicts) × (m ≤ n)
IsSpentBy budget n (Spent conflicts Typed) = ⊥
IsSpentBy budget n (Error m fault t) = ⊥
IsSpentBy budget n (Overflow at part p t) = ⊥
IsSpentBy budget n (Clean m) = ⊥
IsSpentBy budget n Inductive = ⊥
IsSpentBy budget n (NotInductive fault t) = ⊥

-- ---- verdicts

-- no level below this one errs, whatever the width
abbrev pub NoneErrsBelow : Job → ℕ → Type 0
NoneErrsBelow job n = (k : ℕ) → k < n → Errs job k → ⊥

-- the level is the least that errs, and the first question that holds is the fault's, which the trace shows
pub record IsLeastError (w : Width) (job : Job) (longest n : ℕ) (fault : Fault) (t : Trace) : Type 0 where
  pub within : n ≤ longest
  pub shown : ShowsFault w job n fault t
  pub errs : Errs job n
  pub least : NoneErrsBelow job n
  pub first : IsFirst w job n (query_of_fault fault)

-- no lower level errs, and the first question that holds is of an integer outside the width, which the trace shows
pub record IsOverflowAt (w : Width) (job : Job) (longest n : ℕ) (part : Part) (p : Place) (t : Trace) : Type 0 where
  pub within : n ≤ longest
  pub shown : ShowsBig w job n part p t
  pub least : NoneErrsBelow job n
  pub first : IsFirst w job n (query_of_part part)

-- no level up to the longest errs, and no question of these levels holds
pub record IsClean (w : Width) (job : Job) (longest n : ℕ) : Type 0 where
  pub all : n ≡ longest
  pub none : NoneErrsBelow job (longest + 1)
  pub questions : NoneBelow w job (longest + 1)

-- a budget was given and spent at the level, and no lower level errs
pub record IsSpentAt (w : Width) (job : Job) (longest : ℕ) (budget : Option ℕ) (conflicts n : ℕ) : Type 0 where
  pub given : budget ≡ Some conflicts
  pub within : n ≤ longest
  pub least : NoneErrsBelow job n
  pub questions : NoneBelow w job n

-- what is found of the executions of at most so many steps
abbrev pub IsVerdict : Width → Job → ℕ → Option ℕ → Verdict → Type 0
IsVerdict w job longest budget (Clean n) = IsClean w job longest n
IsVerdict w job longest budget (Error n fault t) = IsLeastError w job longest n fault t
IsVerdict w job longest budget (Overflow (Level n) part p t) = IsOverflowAt w job longest n part p t
IsVerdict w job longest budget (Overflow Typed part p t) = ⊥
IsVerdict w job longest budget (Spent conflicts (Level n)) = IsSpentAt w job longest budget conflicts n
IsVerdict w job longest budget (Spent conflicts Typed) = ⊥
IsVerdict w job longest budget Inductive = ⊥
IsVerdict w job longest budget (NotInductive fault t) = ⊥
