-- What ties the trail to the clauses. A clause says nothing under a trail where it is neither false nor a unit there.
use Rattle.std.specs.Prelude.{◌≡◌, ℕ, ◌+◌, ◌<◌, ◌++◌, List, [], ◌∷◌, length, map, All, slice_index_or, drop, IfSome, Option, Some, None}
use Rattle.sat_formula.specs.declared.lit.Lit.{Lit}
use Rattle.refutation_checker.specs.Follows.{negation, IsFalse, IsUnit}
use Rattle.refutation_checker.specs.declared.log.Step.{Step}
use Rattle.watched_search.specs.declared.entry.Entry.{Entry}
use Rattle.watched_search.specs.Trail.{IsFree}
use Rattle.watched_search.specs.Searching.{IsForcedBy}

-- the clause is neither false nor a unit
abbrev pub Quiet : List Lit → List Lit → Type 0
Quiet T c = (IsFalse T c → ⊥) × ((u : Lit) → IsUnit T c u → ⊥)

-- nothing was left to force where the literal was decided
abbrev pub Why : List (List Lit) → List Lit → Lit → Option ℕ → Type 0
Why known T l None = All (Quiet T) known
Why known T l (Some c) = IsForcedBy known T l c

pub record IsNext (known : List (List Lit)) (T : List Lit) (e : Entry) : Type 0 where
  pub free : IsFree T e.lit
  pub why : Why known T e.lit e.reason

-- each entry was free when it came, and was decided or forced under those before it
abbrev pub Chain : List (List Lit) → List Lit → List Entry → Type 0
Chain known T [] = Unit {0}
Chain known T (e ∷ es) = IsNext known T e × Chain known (T ++ e.lit ∷ []) es

abbrev pub decided : Lit → Option ℕ → List Lit
decided l None = l ∷ []
decided l (Some c) = []

-- a clause's number in a log
abbrev pub reason_of : Option ℕ → List ℕ
reason_of None = []
reason_of (Some c) = (c + 1) ∷ []

-- the decided literals
abbrev pub decisions : List Entry → List Lit
decisions [] = []
decisions (e ∷ es) = decided e.lit e.reason ++ decisions es

-- the numbers, in a log, of the clauses that forced the others
abbrev pub reasons : List Entry → List ℕ
reasons [] = []
reasons (e ∷ es) = reason_of e.reason ++ reasons es

-- the last decision stands at this place
pub record IsLastDecision (es : List Entry) (k : ℕ) : Type 0 where
  pub within : k < length es
  pub later : decisions (drop (k + 1) es) ≡ []
  pub decision : (d : Entry) → (slice_index_or es k d).reason ≡ None

-- the step that the trail explains: its negated decisions, with every reason and then the false clause as hints
pub record IsExplained (clauses : ℕ) (es : List Entry) (conflict : ℕ) (s : Step) : Type 0 where
  pub next : s.id ≡ clauses + 1
  pub lits : s.lits ≡ map negation (decisions es)
  pub hints : s.hints ≡ reasons es ++ (conflict + 1) ∷ []

-- each reason is the number of one of n clauses
abbrev pub AreReasonsBelow : ℕ → List Entry → Type 0
AreReasonsBelow n es = All (λ e. IfSome e.reason (λ c. c < n)) es
