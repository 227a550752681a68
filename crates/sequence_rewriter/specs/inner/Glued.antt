-- The first cells of one list and then those of another.
use Rattle.std.specs.Prelude.{◌≡◌, ℕ, ◌<◌, nat_lt, Bool, List, All, length, slice_index_or, if◌then◌else◌}
use Rattle.sat_formula.specs.declared.lit.Lit.{Lit}
use Rattle.sat_formula.specs.Formula.{Satisfies}
use Rattle.word_blaster.specs.Word.{number, values}
use Rattle.cell_arena.specs.declared.build.Build.{Build}
use Rattle.cell_arena.specs.declared.kinds.CellId.{CellId}
use Rattle.cell_arena.specs.declared.kinds.CellKind.{CellKind}
use Rattle.cell_arena.specs.Decode.{decode}
use Rattle.cell_arena.specs.Growth.{Decodes}
use Rattle.cell_merge.specs.Sorts.{Sort, OfSort}

-- cells and one more of one sort
pub record ListAndCell (ks : List CellKind) (xs : List CellId) (y : CellId) : Type 0 where
  pub sort : Sort
  pub list : All (OfSort ks sort) xs
  pub cell : OfSort ks sort y

-- the cell of the list at the place where the number of the bits is greater, if there is one, and else y
pub record IsFrontCell (old new : Build) (bits : List Lit) (xs : List CellId) (y : CellId) (place : ℕ) (id : CellId) : Type 0 where
  pub value : Decodes new id (λ a. if nat_lt place (number (values bits a)) then decode old.arena a (slice_index_or xs place y) else decode old.arena a y)
  pub sort : (t : Sort) → All (OfSort old.arena.kinds t) xs → OfSort old.arena.kinds t y → OfSort new.arena.kinds t id

-- for each of the first n places the cell of the one list where the number of the bits is greater, and
-- else that of the other one
pub record ChoosesFront (old new : Build) (bits : List Lit) (xs ys : List CellId) (n : ℕ) (out : List CellId) : Type 0 where
  pub count : length out ≡ n
  pub there : All (λ p. p.index < length new.arena.kinds) out
  pub values : (a : List Bool) → Satisfies a new.formula → (p : ℕ) (d : CellId) → p < n → decode new.arena a (slice_index_or out p d)
      ≡ (if nat_lt p (number (values bits a)) then decode old.arena a (slice_index_or xs p (slice_index_or ys p d)) else decode old.arena a (slice_index_or ys p d))
  pub sorts : (t : Sort) → All (OfSort old.arena.kinds t) xs → All (OfSort old.arena.kinds t) ys → All (OfSort new.arena.kinds t) out
