-- Records and tuples as functions (Specifying Systems, sections 16.1.8 and 16.1.9).
use Rattle.std.specs.Prelude.{◌≡◌, ℕ, ◌-◌, ◌<◌, ◌≤◌, Bool, List, [], length, slice_index_or, Some, pos}
use Rattle.tla_values.specs.Sets.{apply, override_at}
use Rattle.tla_values.specs.declared.value.Value.TheVariants as value
use Rattle.cell_arena.specs.declared.build.Build.{Build}
use Rattle.cell_arena.specs.declared.kinds.CellId.{CellId}
use Rattle.cell_arena.specs.declared.kinds.CellKind.{CellKind}
use Rattle.cell_arena.specs.Decode.{decode}
use Rattle.cell_arena.specs.Growth.{Decodes}
use Rattle.cell_merge.specs.Sorts.{Sort, OfSort, record_of, tuple_of}
unfoldable pub use Rattle.cell_merge.specs.Arrows.{pairs_of}
pub use Rattle.cell_merge.specs.Arrows.{pairs_here}

-- a record with a field of the name
pub record HasField (ks : List CellKind) (r : CellId) (name : List ℕ) : Type 0 where
  pub names : List (List ℕ)
  pub sorts : ℕ → Sort
  pub is : OfSort ks (record_of names sorts) r
  pub place : ℕ
  pub within : place < length names
  pub named : slice_index_or names place [] ≡ name

-- the record has the cell at the name: its value under every assignment, and the sort of the field
pub record IsField (b : Build) (r : CellId) (name : List ℕ) (id : CellId) : Type 0 where
  pub gives : (a : List Bool) → apply (pairs_of (decode b.arena a r)) (value.Text name) ≡ Some (decode b.arena a id)
  pub sort : (names : List (List ℕ)) (s : ℕ → Sort) (i : ℕ) → OfSort b.arena.kinds (record_of names s) r → i < length names → slice_index_or names i [] ≡ name →
      OfSort b.arena.kinds (s i) id

-- the cell is the record with another value at the name, and keeps each sort that the new part allows
pub record SetsField (old new : Build) (r : CellId) (name : List ℕ) (v id : CellId) : Type 0 where
  pub gives : Decodes new id (λ a. value.Fun (override_at (pairs_of (decode old.arena a r)) (value.Text name) (decode old.arena a v)))
  pub sort : (names : List (List ℕ)) (s : ℕ → Sort) (i : ℕ) → OfSort old.arena.kinds (record_of names s) r → i < length names → slice_index_or names i [] ≡ name →
      OfSort old.arena.kinds (s i) v → OfSort new.arena.kinds (record_of names s) id

-- a tuple with a part of the number, from 1
pub record HasItem (ks : List CellKind) (t : CellId) (i : ℕ) : Type 0 where
  pub count : ℕ
  pub sorts : ℕ → Sort
  pub is : OfSort ks (tuple_of count sorts) t
  pub from : 1 ≤ i
  pub to : i ≤ count

-- the tuple has the cell at the number: its value under every assignment, and the sort of the part
pub record IsItem (b : Build) (t : CellId) (i : ℕ) (id : CellId) : Type 0 where
  pub gives : (a : List Bool) → apply (pairs_of (decode b.arena a t)) (value.Int (pos i)) ≡ Some (decode b.arena a id)
  pub sort : (n : ℕ) (s : ℕ → Sort) → OfSort b.arena.kinds (tuple_of n s) t → OfSort b.arena.kinds (s (i - 1)) id

-- the cell is the tuple with another value at the number, and keeps each sort that the new part allows
pub record SetsItem (old new : Build) (t : CellId) (i : ℕ) (v id : CellId) : Type 0 where
  pub gives : Decodes new id (λ a. value.Fun (override_at (pairs_of (decode old.arena a t)) (value.Int (pos i)) (decode old.arena a v)))
  pub sort : (n : ℕ) (s : ℕ → Sort) → OfSort old.arena.kinds (tuple_of n s) t → OfSort old.arena.kinds (s (i - 1)) v → OfSort new.arena.kinds (tuple_of n s) id
