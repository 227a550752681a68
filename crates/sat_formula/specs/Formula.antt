-- Satisfaction, gates and growth. A gate is a variable that clauses define (Tseitin, "On the
-- complexity of derivation in propositional calculus", 1968).
use Rattle.std.specs.Prelude.{◌≡◌, ◌<◌, ◌≤◌, ◌⊎◌, Bool, true, not, ◌&&◌, IsTrue, nat_eq, List, [], ◌∷◌, ◌++◌, length, filter}
use Rattle.std.specs.List.{list_any}
use Rattle.sat_formula.specs.declared.lit.Lit.{Lit}
use Rattle.sat_formula.specs.declared.cnf.Cnf.{Cnf}
use Rattle.sat_formula.specs.Lit.{lit_value, top_lit}
use Rattle.sat_formula.specs.Clause.{AllTrue, NamesBelow}

-- an assignment satisfies a formula where each clause has a true literal
unfoldable pub Satisfies : List Bool → Cnf → Type 0
Satisfies a f = AllTrue a f.clauses

-- variable 0 exists and is forced, and each clause names variables of the formula only
pub record WellFormed (f : Cnf) : Type 0 where
  pub some : 0 < f.vars
  pub forced : (a : List Bool) → AllTrue a f.clauses → lit_value top_lit a ≡ true
  pub within : NamesBelow f.vars f.clauses

-- the clauses stay in their places, and each assignment that satisfied them extends to one that
-- satisfies the new ones
pub record Extension (old new : Cnf) : Type 0 where
  pub clauses : (more : List (List Lit)) × (new.clauses ≡ old.clauses ++ more)
  pub law : (a : List Bool) → length a ≡ old.vars → AllTrue a old.clauses
      → (more : List Bool) × ((length (a ++ more) ≡ new.vars) × AllTrue (a ++ more) new.clauses)

-- the law of extension, which tactics take as one fact
unfoldable pub Extends : Cnf → Cnf → Type 0
Extends old new = Extension old new

-- what a formula may become: its variables and clauses stay in their places, and each assignment
-- that satisfies it agrees on its variables with one that satisfies the new formula
pub record Grows (old new : Cnf) : Type 0 where
  pub vars : old.vars ≤ new.vars
  pub extends : Extends old new

-- one more variable, either value of which extends each satisfying assignment
abbrev pub EitherExtends : Cnf → Cnf → Type 0
EitherExtends old new = (a : List Bool) (v : Bool) → length a ≡ old.vars → Satisfies a old → Satisfies (a ++ v ∷ []) new

-- under each satisfying assignment the literal has the value that `gate` says
pub record HasValue (f : Cnf) (l : Lit) (gate : List Bool → Bool) : Type 0 where
  pub below : l.var < f.vars
  pub value : (a : List Bool) → Satisfies a f → lit_value l a ≡ gate a

-- the two are equal or opposite, or one of them is variable 0 or its negation
abbrev pub IsTrivialPair : Lit → Lit → Type 0
IsTrivialPair x y = (x.var ≡ 0) ⊎ ((y.var ≡ 0) ⊎ (x.var ≡ y.var))

-- the choice is by variable 0 or its negation, or between equal literals
abbrev pub IsTrivialChoice : Lit → Lit → Lit → Type 0
IsTrivialChoice c y z = (c.var ≡ 0) ⊎ (y ≡ z)

-- one of them is the negation of variable 0, or at most one is of another variable
abbrev pub IsTrivialList : List Lit → Type 0
IsTrivialList lits = IsTrue (list_any (λ l. nat_eq l.var 0 && l.neg) lits) ⊎ (length (filter (λ l. not (nat_eq l.var 0)) lits) ≤ 1)
