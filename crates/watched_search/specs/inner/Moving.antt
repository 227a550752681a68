-- Where a literal's list is looked at, and what may become of the clauses in it.
use Rattle.std.specs.Prelude.{◌≡◌, ◌≢◌, ℕ, ◌+◌, ◌<◌, ◌++◌, List, [], ◌∷◌, length, take, slice_index_or, slice_set, Contains, Option, Some, None}
use Rattle.sat_formula.specs.declared.lit.Lit.{Lit}
use Rattle.watch_chains.specs.declared.link.Link.{Link}
use Rattle.watch_chains.specs.Chains.{place_of}
use Rattle.watch_chains.specs.Watches.{list_at}
use Rattle.watched_search.specs.Codes.{code}
use Rattle.watched_search.specs.inner.Keeping.{Watched, other_of, watch_at}
use Rattle.watched_search.specs.Watching.{HasTwo}

-- the link stands at this place of the literal's list
pub record IsAt (w : Watched) (l : Lit) (i : ℕ) (k : Link) : Type 0 where
  pub below : l.var < w.vars
  pub within : i < length (list_at w.chains (code l))
  pub link : slice_index_or (list_at w.chains (code l)) i k ≡ k

-- and another literal watches in the other slot
pub record IsStanding (w : Watched) (l : Lit) (i : ℕ) (k : Link) (other : Lit) : Type 0 where
  pub at : IsAt w l i k
  pub watch : watch_at w.slots (other_of k) ≡ Some other

-- the literal v watches in the slot in the place of l, whose list the link leaves, while what stands before it stays
pub record IsMoved (old new : Watched) (l : Lit) (i : ℕ) (k : Link) (v : Lit) : Type 0 where
  pub same : new ≡ record old { slots = slice_set old.slots (place_of k) (Some v); chains = new.chains }
  pub front : take i (list_at new.chains (code l)) ≡ take i (list_at old.chains (code l))
  pub fewer : length (list_at new.chains (code l)) + 1 ≡ length (list_at old.chains (code l))

-- two different literals of the clause, if it has them
abbrev pub IsPair : List Lit → Option (Lit × Lit) → Type 0
IsPair c None = HasTwo c → ⊥
IsPair c (Some p) = Contains c p.0 × Contains c p.1 × (p.0 ≢ p.1)

-- a clause is added at the end, with what watches in its slots
pub record IsAdded (old new : Watched) (c : List Lit) : Type 0 where
  pub first : Option Lit
  pub second : Option Lit
  pub same : new ≡ record old { clauses = old.clauses ++ c ∷ []; slots = old.slots ++ first ∷ second ∷ []; chains = new.chains }
