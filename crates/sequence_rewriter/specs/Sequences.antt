-- Sequences of cells and their operators (Specifying Systems, sections 16.1.9 and 18.1).
use Rattle.std.specs.Prelude.{ℕ, suc, ◌-◌, Bool, List, [], ◌∷◌, length, map, take, drop, Option, Some, None, option_map, nat_le, int_le, ℤ, pos, if◌then◌else◌}
use Rattle.tla_values.specs.Order.{Layer}
use Rattle.tla_values.specs.Sequences.{sequence}
use Rattle.tla_values.specs.Sets.{apply, arguments, override_at}
use Rattle.tla_values.specs.Integers.{fits_width}
use Rattle.tla_values.specs.declared.value.Value.{Value, out-Value}
use Rattle.tla_values.specs.declared.value.Value.TheVariants as value
use Rattle.tla_values.specs.declared.value.Value.TheOpen as layer
use Rattle.sat_formula.specs.declared.lit.Lit.{Lit}
use Rattle.cell_arena.specs.declared.build.Build.{Build}
use Rattle.cell_arena.specs.declared.kinds.CellId.{CellId}
use Rattle.cell_arena.specs.declared.kinds.CellKind.{CellKind}
use Rattle.cell_arena.specs.Decode.{decode}
use Rattle.cell_arena.specs.Growth.{Decodes}
use Rattle.cell_merge.specs.Sorts.{Sort, number, set_of as set_sort, sequence_of, OfSort}
use Rattle.cell_merge.specs.Arrows.{pairs_of}
use Rattle.cell_merge.specs.Partial.{Yields}

-- what a sequence holds, in its order; of any value that is no function nothing
abbrev pub items : Value → List Value
items v = map (λ p. p.1) (pairs_of v)

-- the number of an integer; of any other value 0
abbrev pub int_here : Layer Value → ℤ
int_here (layer.Int n) = n
int_here x = pos 0

abbrev pub int_of : Value → ℤ
int_of v = int_here (out-Value v)

-- all items but the first; of no items there are none such
abbrev pub tail_of : List Value → Option (List Value)
tail_of [] = None
tail_of (x ∷ xs) = Some xs

-- the items from the m-th to the n-th, which are none where m is past n
abbrev pub part_of : List Value → ℤ → ℤ → Option (List Value)
part_of xs (pos (suc m)) (pos n) = if nat_le (suc m) n then (if nat_le n (length xs) then Some (take (n - m) (drop m xs)) else None) else Some []
part_of xs m n = if int_le m n then None else Some []

-- the value, where the number fits the width
abbrev pub where_fits : ℕ → ℕ → Value → Option Value
where_fits width n v = if fits_width width (pos n) then Some v else None

-- a sequence of some sort
pub record IsSequenceCell (ks : List CellKind) (s : CellId) : Type 0 where
  pub sort : Sort
  pub is : OfSort ks (sequence_of sort) s

-- a sequence and a cell of the sort of its items
pub record SequenceAndItem (ks : List CellKind) (s x : CellId) : Type 0 where
  pub sort : Sort
  pub sequence : OfSort ks (sequence_of sort) s
  pub item : OfSort ks sort x

-- a sequence and a number
pub record SequenceAndNumber (ks : List CellKind) (s i : CellId) : Type 0 where
  pub sort : Sort
  pub sequence : OfSort ks (sequence_of sort) s
  pub index : OfSort ks number i

-- a sequence, a number and a cell of the sort of its items
pub record SequenceNumberAndItem (ks : List CellKind) (s i v : CellId) : Type 0 where
  pub sort : Sort
  pub sequence : OfSort ks (sequence_of sort) s
  pub index : OfSort ks number i
  pub item : OfSort ks sort v

-- a sequence and two numbers
pub record SequenceAndNumbers (ks : List CellKind) (s m n : CellId) : Type 0 where
  pub sort : Sort
  pub sequence : OfSort ks (sequence_of sort) s
  pub first : OfSort ks number m
  pub last : OfSort ks number n

-- the number of items, where it fits the width
abbrev pub length_value : Build → CellId → List Bool → Option Value
length_value b s a = let n = length (items (decode b.arena a s)) in where_fits b.arena.width n (value.Int (pos n))

-- the cell has the length, and the literal says that it is outside the width
pub record IsLengthCell (old new : Build) (s : CellId) (r : CellId × Lit) : Type 0 where
  pub yields : Yields new r (length_value old s)
  pub sort : OfSort new.arena.kinds number r.0

-- the numbers from 1 to the length, where it fits the width
abbrev pub domain_value : Build → CellId → List Bool → Option Value
domain_value b s a = let ps = pairs_of (decode b.arena a s) in where_fits b.arena.width (length ps) (value.Set (arguments ps))

-- the cell has the domain, and the literal says that the length is outside the width
pub record IsDomainCell (old new : Build) (s : CellId) (r : CellId × Lit) : Type 0 where
  pub yields : Yields new r (domain_value old s)
  pub sort : OfSort new.arena.kinds (set_sort number) r.0

-- the cell is the sequence of these items, and has each sort of sequences that the older cells allow
pub record MakesSequence (old new : Build) (given : Sort → Type 0) (xs : List Bool → List Value) (id : CellId) : Type 0 where
  pub value : Decodes new id (λ a. sequence (xs a))
  pub sort : (t : Sort) → given t → OfSort new.arena.kinds (sequence_of t) id

-- the cell is the sequence of these items, where there are such, the literal says that there are none,
-- and the cell has each sort that s has
pub record IsPart (old new : Build) (s : CellId) (part : List Bool → Option (List Value)) (r : CellId × Lit) : Type 0 where
  pub yields : Yields new r (λ a. option_map sequence (part a))
  pub sort : (t : Sort) → OfSort old.arena.kinds (sequence_of t) s → OfSort new.arena.kinds (sequence_of t) r.0

-- the cell has what the sequence gives at the number, and the literal says that this is outside of its
-- domain; and it has each sort of its items
pub record HasPlace (old new : Build) (s i : CellId) (r : CellId × Lit) : Type 0 where
  pub yields : Yields new r (λ a. apply (pairs_of (decode old.arena a s)) (decode old.arena a i))
  pub sort : (t : Sort) → OfSort old.arena.kinds (sequence_of t) s → OfSort new.arena.kinds t r.0

-- the cell is the sequence with another item at the number, where it has one there, and has each sort
-- that both have
pub record SetsPlace (old new : Build) (s i v id : CellId) : Type 0 where
  pub value : Decodes new id (λ a. value.Fun (override_at (pairs_of (decode old.arena a s)) (decode old.arena a i) (decode old.arena a v)))
  pub sort : (t : Sort) → OfSort old.arena.kinds (sequence_of t) s → OfSort old.arena.kinds t v → OfSort new.arena.kinds (sequence_of t) id
