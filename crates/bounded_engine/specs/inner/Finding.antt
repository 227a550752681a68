-- What is known at a level, and what is found there.
use Rattle.std.specs.Prelude.{◌≡◌, ℕ, zero, suc, ◌<◌, ◌≤◌, Bool, IsTrue, Option, Some, None}
use Rattle.std.specs.Prelude.{List, [], ◌∷◌, length, map, take, All, slice_get}
use Rattle.cell_arena.specs.Decode.{decode}
use Rattle.cell_arena.specs.declared.kinds.CellId.{CellId}
use Rattle.branch_cells.specs.Branches.{AreOfKinds}
use Rattle.encoder_laws.specs.Levels.{HaveTruths}
use Rattle.encoder_laws.specs.declared.level.LevelCells.{LevelCells}
use Rattle.front_end.specs.Accepted.{IsInFiles}
use Rattle.kernel_trees.specs.Systems.{kinds_of_names}
use Rattle.kernel_trees.specs.TypeKinds.{Kind}
use Rattle.snowcat_rows.specs.declared.types.Ty.{Ty}
use Rattle.step_branches.specs.Readings.{state_at}
use Rattle.step_encoder.specs.Encoders.{IsEncoder, kept, width_of}
use Rattle.step_encoder.specs.declared.encoder.Encoder.{Encoder}
use Rattle.step_laws.specs.Encodable.{CanEncode}
use Rattle.step_laws.specs.Encoded.{asked_states}
use Rattle.step_laws.specs.Origins.{the_start}
use Rattle.step_laws.specs.Rows.{Shows}
use Rattle.step_laws.specs.Systems.{StandsFor}
use Rattle.tla_meaning.specs.Executions.{IsWrongOutcome, last_of}
use Rattle.tla_meaning.specs.Expanded.{is_expanded}
use Rattle.tla_meaning.specs.Numbers.{Width}
use Rattle.tla_meaning.specs.Questions.{IsBigOutcome, IsNotTrue}
use Rattle.tla_meaning.specs.declared.job.Job.{Job}
use Rattle.tla_meaning.specs.declared.job.State.{State}
use Rattle.tla_meaning.specs.declared.outcome.Outcome.{Outcome}
use Rattle.tla_meaning.specs.declared.questions.Query.{Query}
use Rattle.tla_meaning.specs.declared.questions.Query.TheVariants.{StepWrong, StepBig, InvNotTrue, InvBig, AssumeBig}
use Rattle.trace_text.specs.declared.verdict.Trace.{Trace}
use Rattle.trace_text.specs.declared.verdict.Verdict.{Verdict}
use Rattle.trace_text.specs.declared.verdict.Verdict.TheVariants.{Clean, Inductive, Error}
use Rattle.trace_text.specs.declared.verdict.Verdict.TheVariants.{Overflow, Spent, NotInductive}
use Rattle.trace_text.specs.declared.verdict.Where.TheVariants.{Level, Typed}
use Rattle.bounded_engine.specs.declared.asking.Journal.{Journal}
use Rattle.bounded_engine.specs.declared.subject.Subject.{Subject}
use Rattle.bounded_engine.specs.Answers.{IsChecked}
use Rattle.bounded_engine.specs.Sections.{Asked}
use Rattle.bounded_engine.specs.Verdicts.{AreTyped, ShowsBig, ShowsFault, StartGives, StepGives, states_told}
use Rattle.bounded_engine.specs.Verdicts.{query_of_fault, query_of_part}
use Rattle.bounded_engine.specs.inner.Asking.{HasRefuted}

-- ---- what is known

-- the trees of a job are expanded
pub record AreExpanded (job : Job) : Type 0 where
  pub cinit : IsTrue (is_expanded job.cinit)
  pub assume : IsTrue (is_expanded job.assume)
  pub init : IsTrue (is_expanded job.init)
  pub next : IsTrue (is_expanded job.next)
  pub invs : All (λ e. IsTrue (is_expanded e.1)) job.invs

-- the types of the names
abbrev pub types_of : Subject → List Ty
types_of a = a.system.now.ker.names

-- the job can be evaluated, its places are in its files, and its system can be encoded
pub record IsReady (a : Subject) : Type 0 where
  pub wide : 4 ≤ a.width
  pub narrow : a.width ≤ 64
  pub expanded : AreExpanded a.job.now
  pub placed : IsInFiles a.job.now
  pub stands : StandsFor (Some a.width) a.job.now a.system.now
  pub encodable : CanEncode a.system.now

-- the encoder is that of the job's system
pub record IsEncoderOf (a : Subject) (e : Encoder) : Type 0 where
  pub encoder : IsEncoder e
  pub system : e.system.now ≡ a.system.now
  pub width : width_of e ≡ a.width

-- and has the level
pub record HasLevel (a : Subject) (e : Encoder) (n : ℕ) : Type 0 where
  pub of : IsEncoderOf a e
  pub there : n < length e.levels

-- ---- states

-- there is one cell for each name, of its kind
abbrev pub AreCellsOf : Encoder → List CellId → Type 0
AreCellsOf e ids =
    (names : List Kind) → kinds_of_names e.system.now.ker ≡ Some names → AreOfKinds e.build.arena.kinds names ids

-- the state of the cells, whose values have the types of the names
pub record IsDecoded (e : Encoder) (ids : List CellId) (bits : List Bool) (s : State) : Type 0 where
  pub values : s.vals ≡ map (decode e.build.arena bits) ids
  pub typed : AreTyped e.system.now.ker.names (s ∷ [])

-- the states of the first levels
abbrev pub states_below : Encoder → List Bool → ℕ → List State
states_below e bits n = map (λ x. state_at e.build.arena x.cells bits) (take n e.levels)

pub record AreDecoded (e : Encoder) (bits : List Bool) (n : ℕ) (states : List State) : Type 0 where
  pub same : states ≡ states_below e bits n
  pub typed : AreTyped e.system.now.ker.names states

-- these states and this attempt show the question
abbrev pub ShowsQuestion : Subject → ℕ → Query → List State → State → Type 0
ShowsQuestion a n q states t = Shows q (Some a.width) a.job.now (the_start (Some a.width) a.job.now) n states t

-- under the assignment the cells of the level stand for such ones
abbrev pub IsShownBy : Subject → Encoder → ℕ → Query → List Bool → Type 0
IsShownBy a e n q bits =
    (x : LevelCells) → slice_get e.levels n ≡ Some x →
    ShowsQuestion a n q (asked_states q (kept e n x) bits) (state_at e.build.arena x.cells bits)

-- the invariants are truth values at the last of the states
abbrev pub EndInTruths : Subject → List State → Type 0
EndInTruths a states = (s : State) → last_of states ≡ Some s → HaveTruths (Some a.width) a.job.now s

-- ---- what is found

-- the outcomes by which a question holds
abbrev pub IsCauseOf : Query → Outcome → Type 0
IsCauseOf StepWrong o = IsWrongOutcome o
IsCauseOf StepBig o = IsBigOutcome o
IsCauseOf InvNotTrue o = IsNotTrue o
IsCauseOf InvBig o = IsBigOutcome o
IsCauseOf AssumeBig o = ⊥

abbrev pub IsOfSteps : Query → Type 0
IsOfSteps StepWrong = Unit {0}
IsOfSteps StepBig = Unit {0}
IsOfSteps InvNotTrue = ⊥
IsOfSteps InvBig = ⊥
IsOfSteps AssumeBig = ⊥

abbrev pub IsOfInvariants : Query → Type 0
IsOfInvariants StepWrong = ⊥
IsOfInvariants StepBig = ⊥
IsOfInvariants InvNotTrue = Unit {0}
IsOfInvariants InvBig = Unit {0}
IsOfInvariants AssumeBig = ⊥

-- the start or the step to the level gives this outcome at the trace
abbrev pub PartGives : Width → Job → ℕ → Outcome → Trace → Type 0
PartGives w job zero o t = StartGives w job zero o t
PartGives w job (suc n) o t = StepGives w job (suc n) o t

-- the verdict is that the question holds, and its trace shows it
abbrev pub IsShown : Width → Job → ℕ → Query → Verdict → Type 0
IsShown w job n q (Error m fault t) = (m ≡ n) × (query_of_fault fault ≡ q) × ShowsFault w job n fault t
IsShown w job n q (Overflow (Level m) part p t) = (m ≡ n) × (query_of_part part ≡ q) × ShowsBig w job n part p t
IsShown w job n q (Overflow Typed part p t) = ⊥
IsShown w job n q (Clean m) = ⊥
IsShown w job n q (Spent conflicts at) = ⊥
IsShown w job n q Inductive = ⊥
IsShown w job n q (NotInductive fault t) = ⊥

-- with values of the types of the names
pub record IsTold (a : Subject) (n : ℕ) (q : Query) (v : Verdict) : Type 0 where
  pub shown : IsShown (Some a.width) a.job.now n q v
  pub typed : AreTyped (types_of a) (states_told v)

-- a verdict at level n, whatever the longest executions are; or the questions so far are refuted
abbrev pub IsAnswered : Subject → Option ℕ → ℕ → List Asked → Journal → Option Verdict → Type 0
IsAnswered a budget n questions journal None = HasRefuted (Some a.width) a.job.now budget questions journal
IsAnswered a budget n questions journal (Some v) =
    (longest : ℕ) → n ≤ longest →
    IsChecked (Some a.width) a.job.now (types_of a) longest budget v journal.sections.items
