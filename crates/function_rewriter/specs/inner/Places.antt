-- The places of parts.
use Rattle.std.specs.Prelude.{◌≡◌, ℕ, ◌<◌, List, [], length, set, slice_index_or}
use Rattle.cell_arena.specs.declared.build.Build.{Build}
use Rattle.cell_arena.specs.declared.kinds.CellId.{CellId}
use Rattle.cell_arena.specs.declared.kinds.CellKind.{CellKind}
use Rattle.cell_arena.specs.Cells.{kind_at}
use Rattle.cell_merge.specs.Sorts.{Sort, OfSort, record_of}
use Rattle.cell_merge.specs.Composites.{parts_of, IsComposite, IsWithParts}

-- a record or tuple with a part at the place, from 0
pub record HasPlace (ks : List CellKind) (id : CellId) (place : ℕ) : Type 0 where
  pub there : id.index < length ks
  pub composite : IsComposite (kind_at ks id)
  pub within : place < length (parts_of (kind_at ks id))

-- the field at the place has the name
pub record IsPlace (fs : List (List ℕ × CellId)) (name : List ℕ) (place : ℕ) : Type 0 where
  pub within : place < length fs
  pub named : (d : List ℕ × CellId) → (slice_index_or fs place d).0 ≡ name

-- where the name stands, the place is one of it
abbrev pub Finds : List (List ℕ × CellId) → List ℕ → ℕ → Type 0
Finds fs name place = (i : ℕ) (d : List ℕ × CellId) → i < length fs → (slice_index_or fs i d).0 ≡ name → IsPlace fs name place

-- the composite with another part at the place
abbrev pub Replaces : Build → Build → CellId → ℕ → CellId → CellId → Type 0
Replaces old new id place part made = IsWithParts old new id (set (parts_of (kind_at old.arena.kinds id)) place part) made

-- a record that has the name at the place
pub record StandsAt (ks : List CellKind) (r : CellId) (name : List ℕ) (place : ℕ) : Type 0 where
  pub names : List (List ℕ)
  pub sorts : ℕ → Sort
  pub is : OfSort ks (record_of names sorts) r
  pub within : place < length names
  pub named : slice_index_or names place [] ≡ name
