-- What a search for a model keeps, and what unit propagation makes of it (Davis, Logemann and Loveland, "A Machine
-- Program for Theorem-Proving", 1962; Zhang and Malik, "The Quest for Efficient Boolean Satisfiability Solvers", 2002).
use Rattle.std.specs.Prelude.{◌≡◌, ◌≢◌, ℕ, ◌<◌, ◌⊎◌, ◌++◌, List, [], ◌∷◌, length, slice_index_or, MatchOption, All, Contains, Option, Some}
use Rattle.sat_formula.specs.declared.lit.Lit.{Lit}
use Rattle.sat_formula.specs.declared.cnf.Cnf.{Cnf}
use Rattle.sat_formula.specs.Lit.{top_lit}
use Rattle.refutation_checker.specs.Follows.{IsFalse, IsUnit}
use Rattle.watch_chains.specs.declared.link.Link.{Link}
use Rattle.watched_search.specs.declared.entry.Entry.{Entry}
use Rattle.watched_search.specs.Trail.{lits_of, IsFree}

-- clauses over the variables below `vars`, the true literals in the order in which they became so, and for each code of
-- a literal the links of the clauses that it watches
pub record SearchView : Type 0 where
  pub vars : ℕ
  pub clauses : List (List Lit)
  pub entries : List Entry
  pub chains : List (List Link)

-- the clause of this number, counted from 0
abbrev pub clause_at : List (List Lit) → ℕ → List Lit
clause_at clauses c = slice_index_or clauses c []

-- the literal at this place
abbrev pub lit_at : List Lit → ℕ → Lit
lit_at lits k = slice_index_or lits k top_lit

-- a literal of the clause is true
abbrev pub HasTrue : List Lit → List Lit → Type 0
HasTrue T c = (l : Lit) × Contains c l × Contains T l

-- two different literals of the clause have no value
abbrev pub HasTwoFree : List Lit → List Lit → Type 0
HasTwoFree T c = (a : Lit) × (b : Lit) × Contains c a × Contains c b × (a ≢ b) × IsFree T a × IsFree T b

-- the clause is true, or neither false nor a unit
abbrev pub IsOpen : List Lit → List Lit → Type 0
IsOpen T c = HasTrue T c ⊎ HasTwoFree T c

-- the clause of this number is a unit, whose literal is l
abbrev pub IsForcedBy : List (List Lit) → List Lit → Lit → ℕ → Type 0
IsForcedBy clauses T l c = (c < length clauses) × IsUnit T (clause_at clauses c) l

-- the clause of this number is false
abbrev pub IsFalseAt : List (List Lit) → List Lit → ℕ → Type 0
IsFalseAt clauses T c = (c < length clauses) × IsFalse T (clause_at clauses c)

-- the entry's reason is a clause that forces it
abbrev pub IsForced : List (List Lit) → List Lit → Entry → Type 0
IsForced clauses T e = (c : ℕ) × (e.reason ≡ Some c) × IsForcedBy clauses T e.lit c

-- each of these entries is forced where the literals T and those before it are true
abbrev pub Forced : List (List Lit) → List Lit → List Entry → Type 0
Forced clauses T [] = Unit {0}
Forced clauses T (e ∷ es) = IsForced clauses T e × Forced clauses (T ++ e.lit ∷ []) es

-- forced entries are added, until a clause is false or each clause is open
pub record Propagates (old new : SearchView) (found : Option ℕ) : Type 0 where
  pub same : new ≡ record old { entries = new.entries; chains = new.chains }
  pub each : (more : List Entry) × (new.entries ≡ old.entries ++ more) × Forced old.clauses (lits_of old.entries) more
  pub answer : MatchOption found (All (IsOpen (lits_of new.entries)) new.clauses) (λ c. IsFalseAt new.clauses (lits_of new.entries) c)

-- the formula's clauses, where nothing is true yet
pub record IsBegun (formula : Cnf) (s : SearchView) : Type 0 where
  pub vars : s.vars ≡ formula.vars
  pub clauses : s.clauses ≡ formula.clauses
  pub entries : s.entries ≡ []
