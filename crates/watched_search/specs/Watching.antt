-- Two literals watch each clause (Moskewicz and others, "Chaff: Engineering an Efficient SAT Solver", 2001).
use Rattle.std.specs.Prelude.{◌≡◌, ◌≢◌, ℕ, ◌<◌, ◌⊎◌, List, length, Contains}
use Rattle.sat_formula.specs.declared.lit.Lit.{Lit}
use Rattle.watch_chains.specs.declared.link.Link.{Link}
use Rattle.watch_chains.specs.Watches.{list_at}
use Rattle.watched_search.specs.Codes.{code}
use Rattle.watched_search.specs.Searching.{SearchView, clause_at}

-- a slot of the clause stands in the list of the literal
abbrev pub Stands : List (List Link) → Lit → ℕ → Type 0
Stands chains l c = (k : Link) × (k.clause ≡ c) × Contains (list_at chains (code l)) k

-- the clause has two different literals
abbrev pub HasTwo : List Lit → Type 0
HasTwo c = (a : Lit) × (b : Lit) × Contains c a × Contains c b × (a ≢ b)

-- the clause of this number stands in the lists of two different literals of its own, and in no other
abbrev pub WatchesTwo : List (List Link) → List Lit → ℕ → Type 0
WatchesTwo chains lits c = (a : Lit) × (b : Lit) × Contains lits a × Contains lits b × (a ≢ b)
    × Stands chains a c × Stands chains b c × ((l : Lit) → Stands chains l c → (l ≡ a) ⊎ (l ≡ b))

-- each clause of two different literals is watched by two
pub record IsWatched (s : SearchView) : Type 0 where
  pub two : (c : ℕ) → c < length s.clauses → HasTwo (clause_at s.clauses c) → WatchesTwo s.chains (clause_at s.clauses c) c
