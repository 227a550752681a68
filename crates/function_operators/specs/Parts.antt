-- Functions, sequences, tuples and records at an index: the index's value, and the sort of the part that stands there.
-- Source: Specifying Systems, sections 16.1.7 to 16.1.9: f[e], where a sequence or tuple is a function on numbers from
-- 1, and a record one on texts.
use Rattle.std.specs.Prelude.{◌≡◌, ℕ, ◌-◌, ◌<◌, ◌≤◌, Bool, List, [], length, slice_index_or, pos}
use Rattle.tla_values.specs.declared.value.Value.{Value}
use Rattle.tla_values.specs.declared.value.Value.TheVariants as value
use Rattle.cell_arena.specs.declared.kinds.CellId.{CellId}
use Rattle.cell_arena.specs.declared.kinds.CellKind.{CellKind}
use Rattle.cell_arena.specs.Cells.{Cells as Arena}
use Rattle.cell_arena.specs.Decode.{decode}
use Rattle.cell_merge.specs.Sorts.{Sort, OfSort, number, function_of, sequence_of, record_of, tuple_of}
use Rattle.function_operators.specs.declared.index.Index.{Index}
use Rattle.function_operators.specs.declared.index.Index.TheVariants as index

abbrev pub index_value : Arena → List Bool → Index → Value
index_value c a (index.Cell x) = decode c a x
index_value c a (index.Number i) = value.Int (pos i)
index_value c a (index.Name x) = value.Text x.now

-- of two sorts, that of a whole and that of its part at the index: a cell leads into a function or a sequence, a
-- literal number into a tuple, a literal name into a record
abbrev pub HasPart : List CellKind → Index → Sort → Sort → Type 0
HasPart ks (index.Cell x) (function_of s t) part = OfSort ks s x × (part ≡ t)
HasPart ks (index.Cell x) (sequence_of t) part = OfSort ks number x × (part ≡ t)
HasPart ks (index.Number i) (tuple_of n s) part = (1 ≤ i) × ((i ≤ n) × (part ≡ s (i - 1)))
HasPart ks (index.Name x) (record_of names s) part =
    (place : ℕ) × ((place < length names) × ((slice_index_or names place [] ≡ x.now) × (part ≡ s place)))
HasPart ks i whole part = ⊥

-- something that has parts at such an index
pub record Indexed (ks : List CellKind) (f : CellId) (i : Index) : Type 0 where
  pub whole : Sort
  pub part : Sort
  pub is : OfSort ks whole f
  pub at : HasPart ks i whole part

-- the cell has the sort of the part, whichever sort the whole has
abbrev pub IsOfPart : List CellKind → List CellKind → CellId → Index → CellId → Type 0
IsOfPart olds news f i x = (whole part : Sort) → OfSort olds whole f → HasPart olds i whole part → OfSort news part x
