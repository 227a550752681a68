-- How lists are kept by links: where each begins, and what follows each of its items.
use Rattle.std.specs.Prelude.{◌≡◌, ℕ, zero, suc, ◌+◌, ◌*◌, ◌/◌, ◌%◌, ◌<◌, nat_eq, if◌then◌else◌, List, [], ◌∷◌, length, map, slice_index_or, Contains, Option, Some, None}
use Rattle.watch_chains.specs.declared.link.Link.{Link}
use Rattle.watch_chains.specs.Watches.{list_at, IsSlot, Apart}

-- the items from `at` on, at most so many as the fuel
abbrev pub walk : {X : Type 0} → (X → Option X) → ℕ → Option X → List X
walk next zero at = []
walk next (suc fuel) None = []
walk next (suc fuel) (Some x) = x ∷ walk next fuel (next x)

-- `next` leads from `at` through the list to its end, and no item stands twice
abbrev pub Path : {X : Type 0} → (X → Option X) → Option X → List X → Type 0
Path next at [] = at ≡ None
Path next at (x ∷ xs) = (at ≡ Some x) × (Contains xs x → ⊥) × Path next (next x) xs

-- where a slot stands in the table of next links
abbrev pub place_of : Link → ℕ
place_of l = 2 * l.clause + l.slot

-- the link behind a slot
abbrev pub follow : List (Option Link) → Link → Option Link
follow nexts l = slice_index_or nexts (place_of l) None

-- there is a link, and its slot is in the table
abbrev pub LeadsOn : List (Option Link) → Option Link → Type 0
LeadsOn nexts at = (l : Link) × (at ≡ Some l) × (place_of l < length nexts)

-- the lists that begin at these links
abbrev pub lists_of : List (Option Link) → List (Option Link) → List (List Link)
lists_of firsts nexts = map (λ at. walk (follow nexts) (length nexts) at) firsts

-- each list is a path from its first link, over slots of its own
pub record Chained (firsts nexts : List (Option Link)) (lists : List (List Link)) : Type 0 where
  pub size : length lists ≡ length firsts
  pub paths : (code : ℕ) → code < length lists → Path (follow nexts) (slice_index_or firsts code None) (list_at lists code)
  pub slots : (code : ℕ) (l : Link) → code < length lists → Contains (list_at lists code) l → IsSlot (length nexts / 2) l
  pub apart : Apart lists

-- the link of a number, of which the greatest of 32 bits stands for none
abbrev pub linked : ℕ → Option Link
linked n = if nat_eq n 4294967295 then None else Some (record { clause = n / 2; slot = n % 2 })

abbrev pub links_in : List ℕ → List (Option Link)
links_in numbers = map (λ n. linked n) numbers

-- there is a number for it
abbrev pub IsPacked : Option Link → Type 0
IsPacked None = Unit {0}
IsPacked (Some l) = (l.slot < 2) × (place_of l < 4294967295)

-- places were added
pub record IsLonger (n : ℕ) (old new : List (Option Link)) : Type 0 where
  pub size : length new ≡ n
  pub same : (k : ℕ) → k < length old → slice_index_or new k None ≡ slice_index_or old k None
