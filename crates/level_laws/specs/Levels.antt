-- Levels and their questions: from what satisfies a formula to runs of so many steps, and from these to what
-- satisfies it. Source: Konnov, Kukovec and Tran, "TLA+ Model Checking Made Symbolic", OOPSLA 2019, on bounded model
-- checking.
use Rattle.std.specs.Prelude.{◌≡◌, ℕ, zero, suc, Bool, true, List, [], ◌∷◌}
use Rattle.level_laws.specs.Constraints.{Assignment, Constraint, Reads, Allowed}
use Rattle.level_laws.specs.Branches.{Held, Transition}

-- from nothing to the states of a start
abbrev pub Start : Type 0 → Type 1
Start S = Transition (Unit {0}) S

-- so many steps from a start: the states before the last, of which the newest is the first, and the last
abbrev pub Run : {S : Type 0} → Start S → Transition S S → ℕ → List S → S → Type 0
Run I P zero [] s = I Held tt s
Run I P (suc n) (s ∷ ss) t = Run I P n ss s × P Held s t
Run I P zero (s ∷ ss) t = ⊥
Run I P (suc n) [] t = ⊥

-- ---- levels

-- whether the run so far holds, the states before the last, and the last, as an assignment gives them
pub record LevelReading (S : Type 0) : Type 0 where
  pub on : Assignment → Bool
  pub past : Assignment → List S
  pub now : Assignment → S

-- Where the literal is true the states that are read are among these runs, and each of these runs is read so
-- somewhere.
pub record Level {S : Type 0} (f : Constraint) (x : LevelReading S) (R : List S → S → Type 0) : Type 0 where
  pub on_reads : Reads f.vars x.on
  pub past_reads : Reads f.vars x.past
  pub now_reads : Reads f.vars x.now
  pub sound : (a : Assignment) → f.Sat a → x.on a ≡ true → R (x.past a) (x.now a)
  pub reach : (ss : List S) (s : S) → R ss s → Allowed f (λ a. (x.on a ≡ true) × ((x.past a ≡ ss) × (x.now a ≡ s)))

-- ---- questions

-- whether the question holds, the states of which it speaks, of which the newest is the first, and an attempt: a
-- state to which no step leads, or nothing
pub record QuestionReading (S T : Type 0) : Type 0 where
  pub asks : Assignment → Bool
  pub states : Assignment → List S
  pub attempt : Assignment → T

-- Where the literal is true the states that are read meet the question with the attempt that is read; and states that
-- meet it with some attempt are read somewhere where the literal is true.
pub record Question {S T : Type 0} (f : Constraint) (x : QuestionReading S T) (R : List S → T → Type 0) : Type 0 where
  pub asks_reads : Reads f.vars x.asks
  pub states_read : Reads f.vars x.states
  pub attempt_reads : Reads f.vars x.attempt
  pub sound : (a : Assignment) → f.Sat a → x.asks a ≡ true → R (x.states a) (x.attempt a)
  pub find : (ss : List S) (t : T) → R ss t → Allowed f (λ a. (x.asks a ≡ true) × (x.states a ≡ ss))

-- of a start there are no states
abbrev pub AtStart : {S T : Type 0} → (T → Type 0) → List S → T → Type 0
AtStart Q [] t = Q t
AtStart Q (s ∷ ss) t = ⊥

-- behind a run, of its last state and an attempt
abbrev pub Behind : {S T : Type 0} → (List S → S → Type 0) → (S → T → Type 0) → List S → T → Type 0
Behind R Q [] t = ⊥
Behind R Q (s ∷ ss) t = R ss s × Q s t
