-- The clauses of a formula by the greatest of their variables.
use Rattle.std.specs.Prelude.{◌≡◌, ℕ, ◌<◌, ◌≤◌, true, List, [], length, All, nat_eq, Contains, slice_index_or}
use Rattle.std.specs.List.{list_any}
use Rattle.sat_formula.specs.declared.lit.Lit.{Lit}

-- the variable is in the clause, and none is greater
pub record IsGreatest (clause : List Lit) (v : ℕ) : Type 0 where
  pub bound : All (λ l. l.var ≤ v) clause
  pub there : list_any (λ (l : Lit). nat_eq l.var v) clause ≡ true

-- for each variable the numbers of clauses, among them each of which it is the greatest
pub record IsIndex (clauses : List (List Lit)) (index : List (List ℕ)) : Type 0 where
  pub within : All (All (λ k. k < length clauses)) index
  pub each : (k v : ℕ) → k < length clauses → v < length index → IsGreatest (slice_index_or clauses k []) v
      → Contains (slice_index_or index v []) k
