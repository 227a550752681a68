-- What ties the search to its log. How units are found and which variable is decided is not spoken of.
use Rattle.std.specs.Prelude.{◌≡◌, ℕ, ◌+◌, ◌<◌, ◌≤◌, ◌++◌, List, [], ◌∷◌, length, take, MatchOption, All, Contains, Option, Some, None, ◌⊎◌}
use Rattle.sat_formula.specs.declared.lit.Lit.{Lit}
use Rattle.sat_formula.specs.declared.cnf.Cnf.{Cnf}
use Rattle.sat_formula.specs.Clause.{NamesBelow}
use Rattle.refutation_checker.specs.declared.log.Step.{Step}
use Rattle.refutation_checker.specs.Follows.{negation, known, EachFollows, Refutes}
use Rattle.watched_search.specs.declared.entry.Entry.{Entry}
use Rattle.watched_search.specs.Trail.{lits_of}
use Rattle.watched_search.specs.Searching.{SearchView, IsOpen, IsFalseAt, Propagates}
use Rattle.cdcl_solver.specs.declared.solver.Solver.{Solver}
use Rattle.cdcl_solver.specs.declared.solver.End.{End}
use Rattle.cdcl_solver.specs.declared.solver.End.TheVariants.{Satisfied, Refuted, Spent}
use Rattle.cdcl_solver.specs.declared.solver.Next.{Next}
use Rattle.cdcl_solver.specs.declared.solver.Next.TheVariants.{Ends, Goes}
use Rattle.cdcl_solver.specs.Answers.{EachNew, IsDerivation, IsRefutation, IsSpent}
use Rattle.cdcl_solver.specs.inner.Acceptance.{start_of}
use Rattle.cdcl_solver.specs.inner.Chain.{Chain}
use Rattle.cdcl_solver.specs.inner.Checking.{empty_trail}
use Rattle.cdcl_solver.specs.inner.Levels.{levels_from}
use Rattle.cdcl_solver.specs.inner.Rounds.{rounds_left}

-- what ties the entries to the log
pub record IsSearch (clauses : List (List Lit)) (steps : List Step) (vars : ℕ) (es : List Entry) : Type 0 where
  pub within : NamesBelow vars (known clauses steps)
  pub chain : Chain (known clauses steps) [] es
  pub follow : EachFollows clauses steps
  pub new : EachNew clauses steps
  pub some : All (λ s. 0 < length s.lits) steps

-- the search holds the formula's clauses and then those of the steps, the levels go with its entries, and the trail on
-- which steps are tested is empty between two tests
pub record IsSolving (s : Solver) : Type 0 where
  pub log : IsSearch s.clauses s.steps s.search.vars s.search.entries
  pub same : s.search.clauses ≡ known s.clauses s.steps
  pub levels : s.levels.items ≡ levels_from 0 s.search.entries
  pub checking : s.checking ≡ empty_trail s.search.vars

-- nothing is true yet
pub record IsBegun (formula : Cnf) (s : Solver) : Type 0 where
  pub clauses : s.clauses ≡ formula.clauses
  pub steps : s.steps ≡ []
  pub vars : s.search.vars ≡ formula.vars
  pub solving : IsSolving s

-- the formula's clauses and the number of variables stay
pub record Keeps (old new : Solver) : Type 0 where
  pub clauses : new.clauses ≡ old.clauses
  pub vars : new.search.vars ≡ old.search.vars

-- each clause is open, or the one of that number is false
abbrev pub IsFound : SearchView → Option ℕ → Type 0
IsFound s found = MatchOption found (All (IsOpen (lits_of s.entries)) s.clauses) (λ c. IsFalseAt s.clauses (lits_of s.entries) c)

-- the search propagated, and the log stays
pub record IsSettled (old new : Solver) (found : Option ℕ) : Type 0 where
  pub solving : IsSolving new
  pub keeps : Keeps old new
  pub steps : new.steps ≡ old.steps
  pub driven : Propagates old.search new.search found
  pub counted : length new.search.entries ≤ new.search.vars

-- a literal was decided
pub record IsDecided (old new : Solver) : Type 0 where
  pub solving : IsSolving new
  pub keeps : Keeps old new
  pub steps : new.steps ≡ old.steps
  pub more : length old.search.entries < length new.search.entries

-- one step more, and what it makes true is not yet there
pub record IsLearned (old new : Solver) : Type 0 where
  pub solving : IsSolving new
  pub keeps : Keeps old new
  pub longer : length new.steps ≡ length old.steps + 1

-- the entries from the decision of the level on are taken back
pub record IsRetreated (old : Solver) (level : ℕ) (new : Solver) : Type 0 where
  pub same : new ≡ record old { search = record old.search { entries = take (start_of old.search.entries level) old.search.entries }; deciding = new.deciding; levels = new.levels }
  pub levels : new.levels.items ≡ take level old.levels.items

-- the step is added, and the entries from the decision of the level on are taken back
pub record IsAdded (old : Solver) (step : Step) (level : ℕ) (new : Solver) : Type 0 where
  pub clauses : new.clauses ≡ old.clauses
  pub steps : new.steps ≡ old.steps ++ step ∷ []
  pub checking : new.checking ≡ old.checking
  pub search : new.search ≡ record old.search {
    clauses = old.search.clauses ++ step.lits ∷ [];
    entries = take (start_of old.search.entries level) old.search.entries;
    chains = new.search.chains;
  }
  pub levels : new.levels.items ≡ take level old.levels.items

-- what may come yet
abbrev pub left : Solver → ℕ
left s = rounds_left s.search.vars (length s.steps) (length s.search.entries)

-- propagation is done, and less is left to do
pub record Advances (old new : Solver) (found : Option ℕ) : Type 0 where
  pub solving : IsSolving new
  pub keeps : Keeps old new
  pub answer : IsFound new.search found
  pub less : left new < left old

-- one step more, the empty clause
pub record IsRefuted (old new : Solver) : Type 0 where
  pub keeps : Keeps old new
  pub refutes : Refutes old.clauses new.steps
  pub derived : IsDerivation old.search.vars old.clauses new.steps
  pub longer : length new.steps ≡ length old.steps + 1

-- each variable has a value, and each clause is open
pub record IsComplete (s : SearchView) : Type 0 where
  pub opened : All (IsOpen (lits_of s.entries)) s.clauses
  pub full : (l : Lit) → l.var < s.vars → Contains (lits_of s.entries) l ⊎ Contains (lits_of s.entries) (negation l)

-- before the end the log has at most as many steps as the budget
abbrev pub IsUnspent : Option ℕ → List Step → Type 0
IsUnspent None steps = Unit {0}
IsUnspent (Some n) steps = length steps ≤ n

-- why the solver ended
abbrev pub IsEnd : Option ℕ → Solver → Solver → End → Type 0
IsEnd budget old new Satisfied = Keeps old new × IsSolving new × IsComplete new.search
IsEnd budget old new Refuted = IsRefutation old.search.vars old.clauses budget new.steps
IsEnd budget old new Spent = IsSpent old.search.vars old.clauses budget new.steps

-- the solver ended, or propagation is done again
abbrev pub IsStepped : Option ℕ → Solver → Solver → Next → Type 0
IsStepped budget old new (Ends e) = IsEnd budget old new e
IsStepped budget old new (Goes found) = Advances old new found × IsUnspent budget new.steps
