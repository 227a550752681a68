-- Clauses and their truth (DIMACS Challenge, "Satisfiability: Suggested Format", 1993).
use Rattle.std.specs.Prelude.{ℕ, Bool, not, List, [], ◌∷◌, map, All, IsTrue}
use Rattle.std.specs.List.{list_any}
use Rattle.sat_formula.specs.declared.lit.Lit.{Lit}
use Rattle.sat_formula.specs.Lit.{lit_value, IsBelow}

-- some literal is true
abbrev pub clause_true : List Bool → List Lit → Bool
clause_true a c = list_any (λ l. lit_value l a) c

-- each clause has a true literal
abbrev pub AllTrue : List Bool → List (List Lit) → Type 0
AllTrue a cs = All (λ c. IsTrue (clause_true a c)) cs

-- each clause names only the first n variables
abbrev pub NamesBelow : ℕ → List (List Lit) → Type 0
NamesBelow n cs = All (λ c. All (IsBelow n) c) cs

-- where `out` is true, so is each of the literals
abbrev pub implications : Lit → List Lit → List (List Lit)
implications out lits = map (λ x. record { var = out.var; neg = not out.neg } ∷ x ∷ []) lits
