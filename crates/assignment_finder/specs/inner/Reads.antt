-- What is read, by names and places, and what of it comes first.
use Rattle.std.specs.Ordering.{is_eq}
use Rattle.std.specs.Prelude.{◌≡◌, ◌&&◌, ◌||◌, nat_eq, ℕ, Bool, true, false, List, map, Option, Some, None}
use Rattle.std.specs.List.{list_any}
use Rattle.tla_meaning.specs.declared.place.Place.{Place}
use Rattle.tla_meaning.specs.Outcomes.{before as comes_before, place_cmp}
use Rattle.kernel_trees.specs.declared.kernel.Ker.{Ker}
use Rattle.kernel_trees.specs.Paths.{Marks, sets}
use Rattle.kernel_trees.specs.Assignments.{reads_at}
use Rattle.assignment_finder.specs.declared.reading.Read.{Read}

abbrev pub Reads : Type 0
Reads = ℕ → Place → Bool

abbrev pub either : Reads → Reads → Reads
either r s i p = r i p || s i p

-- of a name at its place, where it counts
abbrev pub own_reads : Bool → ℕ → Place → Reads
own_reads counts name place i p = (counts && nat_eq i name) && is_eq (place_cmp p place)

abbrev pub reads_any : Marks → List Ker → Reads
reads_any m ks i p = list_any (λ b. b) (map (λ k. reads_at m k i p) ks)

abbrev pub sets_read : Marks → List (ℕ × Ker) → Reads
sets_read m ps i p = list_any (λ k. reads_at m k i p) (sets ps)

pub record IsFirstAt (r : Reads) (x : Read) : Type 0 where
  pub read : r x.name x.place ≡ true
  pub first : (j : ℕ) (q : Place) → r j q ≡ true → comes_before q x.place ≡ false

abbrev pub IsFirst : Reads → Option Read → Type 0
IsFirst r None = (i : ℕ) (p : Place) → r i p ≡ false
IsFirst r (Some x) = IsFirstAt r x
