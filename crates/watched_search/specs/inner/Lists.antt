-- The lists of what each literal watches.
use Rattle.std.specs.Prelude.{◌≡◌, ◌≢◌, ℕ, ◌/◌, ◌%◌, ◌<◌, ◌≤◌, List, [], length, map, slice_index_or, All, AllPairs, Contains}
use Rattle.sat_formula.specs.declared.lit.Lit.{Lit}
use Rattle.watch_chains.specs.declared.link.Link.{Link}
use Rattle.watched_search.specs.declared.lists.Watch.{Watch}
use Rattle.watched_search.specs.Codes.{code, literal}
use Rattle.watched_search.specs.Searching.{clause_at}

-- what a literal watches, and how much there is room for
pub record ListView : Type 0 where
  pub watches : List Watch
  pub room : ℕ

abbrev pub no_list : ListView
no_list = record { watches = []; room = 0 }

-- the list of this code
abbrev pub row_at : List ListView → ℕ → ListView
row_at rows code = slice_index_or rows code no_list

-- the link of a watch
abbrev pub link_of : Watch → Link
link_of w = record { clause = w.link / 2; slot = w.link % 2 }

abbrev pub links_of : List Watch → List Link
links_of watches = map (λ w. link_of w) watches

-- the links of all lists
abbrev pub links_in : List ListView → List (List Link)
links_in rows = map (λ r. links_of r.watches) rows

-- the literal that ends the visit where it is true is of the clause
pub record IsBlocked (clauses : List (List Lit)) (w : Watch) : Type 0 where
  pub clause : w.link / 2 < length clauses
  pub member : Contains (clause_at clauses (w.link / 2)) (literal w.blocker)

abbrev pub AreBlocked : List (List Lit) → ListView → Type 0
AreBlocked clauses r = All (IsBlocked clauses) r.watches

-- no more than n different clauses name the literal
abbrev pub IsRoomFor : List (List Lit) → Lit → ℕ → Type 0
IsRoomFor clauses l n = (cs : List ℕ) → AllPairs (λ a b. a ≢ b) cs → All (λ c. (c < length clauses) × Contains (clause_at clauses c) l) cs → length cs ≤ n

-- each list has room for each clause that names its literal
abbrev pub HasRoom : ℕ → List (List Lit) → List ListView → Type 0
HasRoom vars clauses rows = (l : Lit) → l.var < vars → IsRoomFor clauses l (row_at rows (code l)).room

-- the lists are the same, and have as much room or more
pub record IsRoomier (old new : List ListView) : Type 0 where
  pub size : length new ≡ length old
  pub same : links_in new ≡ links_in old
  pub blocked : (clauses : List (List Lit)) → All (AreBlocked clauses) old → All (AreBlocked clauses) new
  pub more : (z : ℕ) → (row_at old z).room ≤ (row_at new z).room

-- and more for these literals
abbrev pub MakesRoom : List ListView → List ListView → List Lit → Type 0
MakesRoom old new c = All (λ l. (row_at old (code l)).room < (row_at new (code l)).room) c
