-- Where a field is put among sorted ones.
use Rattle.std.specs.Prelude.{◌≡◌, ℕ, ◌≤◌, List, ◌∷◌, ◌++◌, length, take, drop}
use Rattle.cell_arena.specs.declared.kinds.CellId.{CellId}
use Rattle.typed_cells.specs.FieldOrder.{put_field}

-- the place at which a field of this name goes
pub record IsFieldPlace (x : List ℕ) (fs : List (List ℕ × CellId)) (n : ℕ) : Type 0 where
  pub within : n ≤ length fs
  pub put : (c : CellId) → put_field x c fs ≡ take n fs ++ (x, c) ∷ drop n fs
