-- What the solver's answers mean. Clauses are compared as sets of literals. Satisfaction is that of DIMACS
-- ("Satisfiability: Suggested Format", 1993), and steps and refutations those of the format LRAT without deletions
-- (Cruz-Filipe and others, "Efficient Certified RAT Verification", 2017).
use Rattle.std.specs.Prelude.{◌≡◌, ℕ, ◌+◌, ◌<◌, ◌≤◌, ◌++◌, Bool, true, List, [], ◌∷◌, length, take, All, Contains, slice_index_or, Option, Some, None}
use Rattle.sat_formula.specs.declared.lit.Lit.{Lit}
use Rattle.sat_formula.specs.declared.cnf.Cnf.{Cnf}
use Rattle.sat_formula.specs.Lit.{lit_value, IsBelow}
use Rattle.sat_formula.specs.Formula.{Satisfies}
use Rattle.refutation_checker.specs.declared.log.Step.{Step}
use Rattle.refutation_checker.specs.Follows.{known, EachFollows, Refutes}
use Rattle.cdcl_solver.specs.declared.answer.Answer.{Answer}
use Rattle.cdcl_solver.specs.declared.answer.Answer.TheVariants.{Sat, Unsat, Spent}

-- the formula's clauses, and last the clause of the one literal that is assumed
abbrev pub clauses_with : Cnf → Lit → List (List Lit)
clauses_with formula assume = formula.clauses ++ (assume ∷ []) ∷ []

-- a value for each variable, by which the formula is satisfied and the literal true
pub record IsModel (formula : Cnf) (assume : Lit) (a : List Bool) : Type 0 where
  pub length : length a ≡ formula.vars
  pub satisfies : Satisfies a formula
  pub assumed : lit_value assume a ≡ true

-- the clause contains none of these clauses
abbrev pub IsNew : List (List Lit) → List Lit → Type 0
IsNew clauses lits = All (λ c. All (Contains lits) c → ⊥) clauses

-- no step but the empty clause contains a clause of the formula or of an earlier step, so that no step repeats or
-- weakens what is there
abbrev pub EachNew : List (List Lit) → List Step → Type 0
EachNew formula steps =
    (k : ℕ) → k < length steps → (d : Step) → 0 < length (slice_index_or steps k d).lits → IsNew (known formula (take k steps)) (slice_index_or steps k d).lits

-- each step follows, names the first `vars` variables alone, and is new
pub record IsDerivation (vars : ℕ) (clauses : List (List Lit)) (log : List Step) : Type 0 where
  pub follow : EachFollows clauses log
  pub names : All (λ s. All (IsBelow vars) s.lits) log
  pub new : EachNew clauses log

-- at most as many steps as the budget has, and the empty clause
abbrev pub IsWithin : Option ℕ → List Step → Type 0
IsWithin None log = Unit {0}
IsWithin (Some n) log = length log ≤ n + 1

-- a log that refutes the clauses
pub record IsRefutation (vars : ℕ) (clauses : List (List Lit)) (budget : Option ℕ) (log : List Step) : Type 0 where
  pub refutes : Refutes clauses log
  pub derived : IsDerivation vars clauses log
  pub within : IsWithin budget log

-- as many steps as the budget has, none of them the empty clause
pub record IsSpent (vars : ℕ) (clauses : List (List Lit)) (budget : Option ℕ) (log : List Step) : Type 0 where
  pub count : budget ≡ Some (length log)
  pub derived : IsDerivation vars clauses log
  pub some : All (λ s. 0 < length s.lits) log

abbrev pub IsAnswer : Cnf → Lit → Option ℕ → Answer → Type 0
IsAnswer formula assume budget (Sat a) = IsModel formula assume a
IsAnswer formula assume budget (Unsat log) = IsRefutation formula.vars (clauses_with formula assume) budget log
IsAnswer formula assume budget (Spent log) = IsSpent formula.vars (clauses_with formula assume) budget log
