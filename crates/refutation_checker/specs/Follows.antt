-- When a step of a log follows, and when a log refutes. Source: the format LRAT without deletions
-- and without resolution asymmetric tautologies (Cruz-Filipe, Heule, Hunt, Kaufmann and
-- Schneider-Kamp, "Efficient Certified RAT Verification", 2017); unit propagation and the clause
-- numbers are those of DIMACS and of that format.
use Rattle.std.specs.Prelude.{◌≡◌, ℕ, ◌+◌, ◌-◌, ◌<◌, ◌≤◌, ◌⊎◌, ◌++◌, Bool, false, not, List, [], ◌∷◌, length, map, take, All, Contains, IsTrue, slice_index_or, slice_get, ◌==◌, Option, Some, None}
use Rattle.sat_formula.specs.declared.lit.Lit.{Lit}
use Rattle.sat_formula.specs.Clause.{AllTrue}
use Rattle.refutation_checker.specs.declared.log.Step.{Step}
use Rattle.refutation_checker.specs.declared.answers.Check.{Check}
use Rattle.refutation_checker.specs.declared.answers.Check.TheVariants.{Yes, Open, No}

abbrev pub negation : Lit → Lit
negation l = record { var = l.var; neg = not l.neg }

-- no literal stands beside its negation
abbrev pub HasNoOpposites : List Lit → Type 0
HasNoOpposites lits = (l : Lit) → Contains lits l → Contains lits (negation l) → ⊥

-- each literal is false where those of `truths` are true
abbrev pub IsFalse : List Lit → List Lit → Type 0
IsFalse truths clause = All (λ l. Contains truths (negation l)) clause

-- no literal is true, and u is the one that isn't false; a literal named twice counts once
pub record IsUnit (truths clause : List Lit) (u : Lit) : Type 0 where
  pub member : Contains clause u
  pub not_true : Contains truths u → ⊥
  pub not_false : Contains truths (negation u) → ⊥
  pub others : All (λ l. (l ≡ u) ⊎ Contains truths (negation l)) clause

-- each hint's clause is a unit under what the earlier ones made true, and the last one's is false
abbrev pub Propagates : List (List Lit) → List Lit → List ℕ → Type 0
Propagates known truths [] = ⊥
Propagates known truths (h ∷ []) = (0 < h) × ((h ≤ length known) × IsFalse truths (slice_index_or known (h - 1) []))
Propagates known truths (h ∷ k ∷ hs) =
    (0 < h) × ((h ≤ length known) × ((u : Lit) × (IsUnit truths (slice_index_or known (h - 1) []) u × Propagates known (truths ++ u ∷ []) (k ∷ hs))))

-- the clauses that a hint can name, from number 1 on: the formula's, and then those of the steps
abbrev pub known : List (List Lit) → List Step → List (List Lit)
known formula steps = formula ++ map (λ s. s.lits) steps

-- a step with the next number follows
pub record Follows (clauses : List (List Lit)) (step : Step) : Type 0 where
  pub next : step.id ≡ length clauses + 1
  pub apart : HasNoOpposites step.lits
  pub works : Propagates clauses (map negation step.lits) step.hints

-- the step at k follows from what stands before it
abbrev pub StepFollows : List (List Lit) → List Step → ℕ → Type 0
StepFollows formula steps k = (d : Step) → Follows (known formula (take k steps)) (slice_index_or steps k d)

-- each step follows
abbrev pub EachFollows : List (List Lit) → List Step → Type 0
EachFollows formula steps = (k : ℕ) → k < length steps → StepFollows formula steps k

abbrev pub is_empty_step : Option Step → Bool
is_empty_step None = false
is_empty_step (Some s) = length s.lits == 0

-- the last step is the empty clause
abbrev pub ends_empty : List Step → Bool
ends_empty steps = is_empty_step (slice_get steps (length steps - 1))

-- a log refutes where each step follows and the last is the empty clause
abbrev pub Refutes : List (List Lit) → List Step → Type 0
Refutes formula steps = EachFollows formula steps × IsTrue (ends_empty steps)

-- the first step that doesn't follow has this number
abbrev pub FailsAt : List (List Lit) → List Step → ℕ → Type 0
FailsAt formula steps id =
    (k : ℕ) × ((k < length steps) × (((j : ℕ) → j < k → StepFollows formula steps j) × ((StepFollows formula steps k → ⊥) × ((d : Step) → id ≡ (slice_index_or steps k d).id))))

abbrev pub IsAnswer : List (List Lit) → List Step → Check → Type 0
IsAnswer formula steps Yes = Refutes formula steps
IsAnswer formula steps Open = EachFollows formula steps × (IsTrue (ends_empty steps) → ⊥)
IsAnswer formula steps (No id) = FailsAt formula steps id

-- no assignment makes each clause true
abbrev pub IsUnsatisfiable : List (List Lit) → Type 0
IsUnsatisfiable clauses = (a : List Bool) → AllTrue a clauses → ⊥
