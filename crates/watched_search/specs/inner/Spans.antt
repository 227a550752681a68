-- Clauses as parts of one list of codes, and what watches as a number.
use Rattle.std.specs.Prelude.{ℕ, ◌-◌, ◌<◌, ◌≤◌, List, map, take, drop, nat_eq, if◌then◌else◌, Option, Some, None}
use Rattle.sat_formula.specs.declared.lit.Lit.{Lit}
use Rattle.watched_search.specs.declared.clauses.Span.{Span}
use Rattle.watched_search.specs.Codes.{literal}

-- the literals of a part
abbrev pub literals_in : List ℕ → Span → List Lit
literals_in codes s = map (λ n. literal n) (take (s.end - s.start) (drop s.start codes))

-- the part lies in a list of n codes
abbrev pub IsWithin : ℕ → Span → Type 0
IsWithin n s = (s.start ≤ s.end) × (s.end ≤ n)

-- the greatest number of 32 bits stands where nothing watches
abbrev pub watching : ℕ → Option Lit
watching n = if nat_eq n 4294967295 then None else Some (literal n)

-- what watches in each slot
abbrev pub watching_in : List ℕ → List (Option Lit)
watching_in numbers = map (λ n. watching n) numbers

-- there is a number for it
abbrev pub IsSmall : Option Lit → Type 0
IsSmall None = Unit {0}
IsSmall (Some l) = l.var < 2147483647
