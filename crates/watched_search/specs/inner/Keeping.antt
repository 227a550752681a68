-- What holds between the calls of a search: of the clauses with what watches them, and of what was looked at.
use Rattle.std.specs.Prelude.{◌≡◌, ◌≢◌, ℕ, ◌-◌, ◌*◌, ◌<◌, ◌≤◌, List, length, slice_index_or, All, AllPairs, Contains, Option, Some, None}
use Rattle.sat_formula.specs.declared.lit.Lit.{Lit}
use Rattle.sat_formula.specs.Clause.{NamesBelow}
use Rattle.refutation_checker.specs.Follows.{negation}
use Rattle.watch_chains.specs.declared.link.Link.{Link}
use Rattle.watch_chains.specs.Chains.{place_of}
use Rattle.watch_chains.specs.Watches.{list_at, IsSlot}
use Rattle.watched_search.specs.declared.propagation.Progress.{Progress}
use Rattle.watched_search.specs.Codes.{code}
use Rattle.watched_search.specs.Trail.{TrailView, lits_of}
use Rattle.watched_search.specs.Searching.{clause_at, lit_at}
use Rattle.watched_search.specs.Watching.{HasTwo}

-- clauses, the literal that watches in each slot, and the links of each literal's list
pub record Watched : Type 0 where
  pub vars : ℕ
  pub clauses : List (List Lit)
  pub slots : List (Option Lit)
  pub chains : List (List Link)

-- the slot of a clause
abbrev pub slot_of : ℕ → ℕ → Link
slot_of c s = record { clause = c; slot = s }

-- the other slot of its clause
abbrev pub other_of : Link → Link
other_of k = slot_of k.clause (1 - k.slot)

-- what watches in a slot
abbrev pub watch_at : List (Option Lit) → Link → Option Lit
watch_at slots k = slice_index_or slots (place_of k) None

-- two different literals of the clause watch it, or there are no two
abbrev pub IsPairOf : List Lit → Option Lit → Option Lit → Type 0
IsPairOf c None None = HasTwo c → ⊥
IsPairOf c (Some a) (Some b) = Contains c a × Contains c b × (a ≢ b)
IsPairOf c None (Some b) = ⊥
IsPairOf c (Some a) None = ⊥

-- each slot stands in the list of the literal that watches in it, and in no other, and no clause stands twice in one
pub record IsPaired (w : Watched) : Type 0 where
  pub codes : length w.chains ≡ 2 * w.vars
  pub slots : length w.slots ≡ 2 * length w.clauses
  pub names : NamesBelow w.vars w.clauses
  pub pairs : (c : ℕ) → c < length w.clauses → IsPairOf (clause_at w.clauses c) (watch_at w.slots (slot_of c 0)) (watch_at w.slots (slot_of c 1))
  pub stands : (k : Link) (l : Lit) → l.var < w.vars → Contains (list_at w.chains (code l)) k → IsSlot (length w.clauses) k × (watch_at w.slots k ≡ Some l)
  pub linked : (k : Link) (l : Lit) → IsSlot (length w.clauses) k → watch_at w.slots k ≡ Some l → Contains (list_at w.chains (code l)) k
  pub once : (l : Lit) → l.var < w.vars → AllPairs (λ a b. a.clause ≢ b.clause) (list_at w.chains (code l))

-- the place j is in no later level than the place k
abbrev pub SameLevel : List ℕ → ℕ → ℕ → Type 0
SameLevel starts k j = (s : ℕ) → Contains starts s → s ≤ j → s ≤ k

-- where l became false among the first `head` entries, the clause has a true literal of no later level
abbrev pub Held : List Lit → List ℕ → ℕ → List Lit → Lit → Type 0
Held T starts head c l = (k : ℕ) → k < head → lit_at T k ≡ negation l
    → (j : ℕ) × (j < length T) × Contains c (lit_at T j) × SameLevel starts k j

-- the clause has a literal that is true before the first level
abbrev pub Rooted : List Lit → List ℕ → List Lit → Type 0
Rooted T starts c = (j : ℕ) × (j < length T) × Contains c (lit_at T j) × ((s : ℕ) → Contains starts s → j < s)

-- what the entries before `head` make of the clauses before `ready` is known
pub record IsKept (w : Watched) (t : TrailView) (p : Progress) : Type 0 where
  pub head : p.head ≤ length t.entries
  pub ready : p.ready ≤ length w.clauses
  pub starts : All (λ s. s ≤ p.head) t.starts
  pub held : (k : Link) (l : Lit) → IsSlot p.ready k → watch_at w.slots k ≡ Some l → Held (lits_of t.entries) t.starts p.head (clause_at w.clauses k.clause) l
  pub rooted : (c : ℕ) → c < p.ready → watch_at w.slots (slot_of c 0) ≡ None → Rooted (lits_of t.entries) t.starts (clause_at w.clauses c)

-- levels were forgotten, and entries from `less` on are to be looked at again
pub record IsLowered (old new : TrailView) (before less : ℕ) : Type 0 where
  pub same : new ≡ record old { starts = new.starts }
  pub lower : less ≤ before
  pub fewer : (s : ℕ) → Contains new.starts s → Contains old.starts s
  pub within : All (λ s. s ≤ before) old.starts → All (λ s. s ≤ less) new.starts
