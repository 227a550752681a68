-- What ties the search's trail to its log. How units are found and which variable is decided is not spoken of.
use Rattle.std.specs.Prelude.{◌≡◌, ℕ, ◌+◌, ◌<◌, ◌≤◌, ◌++◌, List, [], ◌∷◌, length, take, MatchOption, All, Option, Some, None}
use Rattle.sat_formula.specs.declared.lit.Lit.{Lit}
use Rattle.sat_formula.specs.declared.cnf.Cnf.{Cnf}
use Rattle.refutation_checker.specs.declared.log.Step.{Step}
use Rattle.refutation_checker.specs.Follows.{known, Refutes}
use Rattle.plain_solver.specs.declared.searching.Search.{Search}
use Rattle.plain_solver.specs.declared.searching.End.{End}
use Rattle.plain_solver.specs.declared.searching.End.TheVariants.{Satisfied, Refuted, Spent}
use Rattle.cdcl_solver.specs.Answers.{IsDerivation, IsRefutation, IsSpent}
use Rattle.watched_search.specs.Trail.{TrailView, lits_of, starts_below}
use Rattle.watched_search.specs.Searching.{IsFalseAt}
use Rattle.cdcl_solver.specs.inner.Chain.{Quiet}
use Rattle.cdcl_solver.specs.inner.Solving.{IsSearch}
use Rattle.plain_solver.specs.inner.Trail.{IsFirstFree}
use Rattle.plain_solver.specs.inner.Occurrences.{AllKept, IsIndex, Adds}
use Rattle.cdcl_solver.specs.inner.Weight.{weight}

-- each clause stands in the index
pub record IsSearching (s : Search) : Type 0 where
  pub search : IsSearch s.clauses s.steps s.trail.room s.trail.entries
  pub index : IsIndex s.trail.room s.occurrences (known s.clauses s.steps)

-- only what the entries from `head` on make of the clauses is left to look at
pub record IsReady (s : Search) : Type 0 where
  pub head : s.head ≤ length s.trail.entries
  pub kept : AllKept (known s.clauses s.steps) (take s.head (lits_of s.trail.entries)) (lits_of s.trail.entries)

-- nothing is true yet
pub record IsBegun (formula : Cnf) (s : Search) : Type 0 where
  pub clauses : s.clauses ≡ formula.clauses
  pub steps : s.steps ≡ []
  pub trail : s.trail ≡ record { room = formula.vars; entries = []; starts = [] }
  pub head : s.head ≡ 0
  pub searching : IsSearching s

-- the clause of that number is false
abbrev pub Meets : Search → ℕ → Type 0
Meets s conflict = IsFalseAt (known s.clauses s.steps) (lits_of s.trail.entries) conflict

-- the clauses and the number of variables stay
pub record Keeps (old new : Search) : Type 0 where
  pub clauses : new.clauses ≡ old.clauses
  pub room : new.trail.room ≡ old.trail.room

-- each clause was looked at once
pub record IsOpened (old new : Search) (conflict : Option ℕ) : Type 0 where
  pub searching : IsSearching new
  pub keeps : Keeps old new
  pub steps : new.steps ≡ old.steps
  pub found : MatchOption conflict (IsReady new) (λ h. Meets new h)

-- the trail went on, until a clause is false or each says nothing
pub record IsSettled (old new : Search) (conflict : Option ℕ) : Type 0 where
  pub searching : IsSearching new
  pub keeps : Keeps old new
  pub steps : new.steps ≡ old.steps
  pub weight : weight old.trail.room new.trail.entries ≤ weight old.trail.room old.trail.entries
  pub found : MatchOption conflict (All (Quiet (lits_of new.trail.entries)) (known new.clauses new.steps)) (λ h. Meets new h)

-- a literal was decided
pub record IsDecided (old new : Search) : Type 0 where
  pub searching : IsSearching new
  pub ready : IsReady new
  pub keeps : Keeps old new
  pub steps : new.steps ≡ old.steps
  pub smaller : weight old.trail.room new.trail.entries < weight old.trail.room old.trail.entries

-- the step is added, and the literal forced by it behind the first `at` entries
abbrev pub stepped : Search → Step → Lit → ℕ → List (List ℕ) → Search
stepped s step forced at lists = record s {
  steps = s.steps ++ step ∷ [];
  trail = record s.trail {
    entries = take at s.trail.entries ++ record { lit = forced; reason = Some (length (known s.clauses s.steps)) } ∷ [];
    starts = starts_below at s.trail.starts;
  };
  head = at;
  occurrences = lists;
}

pub record IsStepped (old : Search) (step : Step) (forced : Lit) (at : ℕ) (new : Search) : Type 0 where
  pub lists : List (List ℕ)
  pub adds : Adds old.occurrences lists step.lits (length (known old.clauses old.steps))
  pub same : new ≡ stepped old step forced at lists

-- one step more, and a lower trail
pub record Advances (old new : Search) : Type 0 where
  pub searching : IsSearching new
  pub ready : IsReady new
  pub keeps : Keeps old new
  pub longer : length new.steps ≡ length old.steps + 1
  pub smaller : weight old.trail.room new.trail.entries < weight old.trail.room old.trail.entries

-- one step more, the empty clause
pub record IsRefuted (old new : Search) : Type 0 where
  pub keeps : Keeps old new
  pub refutes : Refutes old.clauses new.steps
  pub derived : IsDerivation old.trail.room old.clauses new.steps
  pub longer : length new.steps ≡ length old.steps + 1

-- each variable has a value, and each clause says nothing
pub record IsComplete (clauses : List (List Lit)) (t : TrailView) : Type 0 where
  pub quiet : All (Quiet (lits_of t.entries)) clauses
  pub full : IsFirstFree t.room (lits_of t.entries) None

-- before the end the log has at most as many steps as the budget
abbrev pub IsUnspent : Option ℕ → List Step → Type 0
IsUnspent None steps = Unit {0}
IsUnspent (Some n) steps = length steps ≤ n

abbrev pub IsEnd : Option ℕ → Search → Search → End → Type 0
IsEnd budget old new Satisfied = Keeps old new × IsComplete (known new.clauses new.steps) new.trail
IsEnd budget old new Refuted = IsRefutation old.trail.room old.clauses budget new.steps
IsEnd budget old new Spent = IsSpent old.trail.room old.clauses budget new.steps

-- a conflict was met: the search ended, or goes on
abbrev pub IsResolved : Option ℕ → Search → Search → Option End → Type 0
IsResolved budget old new None = Advances old new × IsUnspent budget new.steps
IsResolved budget old new (Some e) = IsEnd budget old new e
