-- In which order the modules of a root are read: each at its first mention, before those that it mentions, and why
-- reading ends early (Specifying Systems, section 17.7).
use Rattle.std.specs.Prelude.{ℕ, zero, suc, ◌==◌, Bool, List, [], ◌∷◌, ◌++◌, length, Some, None, if◌then◌else◌}
use Rattle.std.specs.List.{list_any}
use Rattle.tla_meaning.specs.Scopes.{find_last, same_text}
use Rattle.tla_meaning.specs.Flattening.{Modules, mentioned_files}

-- where the modules that were read lead, in this order
pub data Course : Type 0 where
  -- all that is mentioned was read
  Whole : List (List ℕ) → Course
  -- this module is to be read behind these
  Next : List ℕ → List (List ℕ) → Course
  -- modules of which each mentions the next, the first and last equal
  Cycle : List (List ℕ) → Course
  -- one more is mentioned where 64 were read
  TooMany : Course

abbrev pub is_among : List ℕ → List (List ℕ) → Bool
is_among x xs = list_any (same_text x) xs

abbrev pub from_name : List ℕ → List (List ℕ) → List (List ℕ)
from_name x [] = []
from_name x (y ∷ ys) = if same_text x y then y ∷ ys else from_name x ys

-- goes on behind what was read
abbrev pub and_then : Course → (List (List ℕ) → Course) → Course
and_then (Whole read) f = f read
and_then (Next x read) f = Next x read
and_then (Cycle xs) f = Cycle xs
and_then TooMany f = TooMany

abbrev pub one_by_one : (List ℕ → List (List ℕ) → Course) → List (List ℕ) → List (List ℕ) → Course
one_by_one step [] read = Whole read
one_by_one step (x ∷ xs) read = and_then (step x read) (one_by_one step xs)

-- a mention, behind the modules of which each mentions the next; no chain of them has more than 64 and this one
abbrev pub mention : ℕ → Modules → List (List ℕ) → List ℕ → List (List ℕ) → Course
mention zero ms chain x read = TooMany
mention (suc n) ms chain x read =
    if is_among x chain then Cycle (from_name x chain ++ x ∷ [])
    else if is_among x read then Whole read
    else if length read == 64 then TooMany
    else elim (find_last x ms) [
      | None ↦ Next x read
      | Some m ↦ one_by_one (mention n ms (chain ++ x ∷ [])) (mentioned_files m) (read ++ x ∷ [])
    ]

-- from the root, which is read whatever its name is
abbrev pub course : Modules → List ℕ → Course
course ms root =
    elim (find_last root ms) [
      | None ↦ Next root []
      | Some m ↦ one_by_one (mention 65 ms (root ∷ [])) (mentioned_files m) (root ∷ [])
    ]
