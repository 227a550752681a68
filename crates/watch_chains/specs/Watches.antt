-- Lists of links, one for each literal code.
use Rattle.std.specs.Prelude.{◌≡◌, ◌≢◌, ℕ, ◌<◌, List, [], ◌∷◌, ◌++◌, length, slice_index_or, Contains, AllPairs, Option, Some, None}
use Rattle.watch_chains.specs.declared.link.Link.{Link}

-- one list for each code. The clauses below `room` can be linked
pub record Watches : Type 0 where
  pub room : ℕ
  pub lists : List (List Link)

-- the list of this code
abbrev pub list_at : List (List Link) → ℕ → List Link
list_at lists code = slice_index_or lists code []

-- a slot of a clause that can be linked
pub record IsSlot (room : ℕ) (l : Link) : Type 0 where
  pub clause : l.clause < room
  pub slot : l.slot < 2

-- the link stands in no list
abbrev pub IsAbsent : List (List Link) → Link → Type 0
IsAbsent lists l = (code : ℕ) → code < length lists → Contains (list_at lists code) l → ⊥

-- no link stands in two lists
abbrev pub Apart : List (List Link) → Type 0
Apart lists = (code other : ℕ) (l : Link) → code < length lists → other < length lists
    → Contains (list_at lists code) l → Contains (list_at lists other) l → code ≡ other

-- each link is a slot, and stands at one place of one list
pub record IsWatchTable (room : ℕ) (lists : List (List Link)) : Type 0 where
  pub slots : (code : ℕ) (l : Link) → code < length lists → Contains (list_at lists code) l → IsSlot room l
  pub once : (code : ℕ) → code < length lists → AllPairs (λ a b. a ≢ b) (list_at lists code)
  pub apart : Apart lists

-- some link stands behind `before`, or is the first
abbrev pub IsFollowed : List Link → Option Link → Type 0
IsFollowed list None = (l : Link) × (rest : List Link) × (list ≡ l ∷ rest)
IsFollowed list (Some before) = (front : List Link) × (l : Link) × (rest : List Link) × (list ≡ front ++ before ∷ l ∷ rest)

-- the link behind `before`, or the first, is taken out
abbrev pub TakesOut : List Link → List Link → Option Link → Link → Type 0
TakesOut old new None l = old ≡ l ∷ new
TakesOut old new (Some before) l = (front rest : List Link) (next : Link) → old ≡ front ++ before ∷ next ∷ rest
    → (l ≡ next) × (new ≡ front ++ before ∷ rest)
