-- Cells moved to other places, a bit at a time.
use Rattle.std.specs.Prelude.{◌≡◌, ℕ, ◌+◌, ◌-◌, ◌^◌, ◌<◌, ◌≤◌, Bool, List, All, length, map, take, slice_index_or, if◌then◌else◌}
use Rattle.sat_formula.specs.declared.lit.Lit.{Lit}
use Rattle.sat_formula.specs.Lit.{lit_value}
use Rattle.sat_formula.specs.Formula.{Satisfies}
use Rattle.word_blaster.specs.Word.{number, values}
use Rattle.tla_values.specs.declared.value.Value.{Value}
use Rattle.cell_arena.specs.declared.build.Build.{Build}
use Rattle.cell_arena.specs.declared.kinds.CellId.{CellId}
use Rattle.cell_arena.specs.declared.kinds.CellKind.{CellKind}
use Rattle.cell_arena.specs.Decode.{decode}
use Rattle.cell_merge.specs.Sorts.{Sort, OfSort}

-- cells of one sort
pub record AreAlike (ks : List CellKind) (cells : List CellId) : Type 0 where
  pub sort : Sort
  pub are : All (OfSort ks sort) cells

-- two lists of cells of one sort
pub record AreLists (ks : List CellKind) (xs ys : List CellId) : Type 0 where
  pub sort : Sort
  pub left : All (OfSort ks sort) xs
  pub right : All (OfSort ks sort) ys

-- the first n cells of the one list where the literal is true, and else those of the other
pub record ChoosesList (old new : Build) (l : Lit) (xs ys : List CellId) (n : ℕ) (out : List CellId) : Type 0 where
  pub count : length out ≡ n
  pub there : All (λ p. p.index < length new.arena.kinds) out
  pub values : (a : List Bool) → Satisfies a new.formula →
      map (decode new.arena a) out ≡ (if lit_value l a then map (decode old.arena a) (take n xs) else map (decode old.arena a) (take n ys))
  pub sorts : (t : Sort) → All (OfSort old.arena.kinds t) xs → All (OfSort old.arena.kinds t) ys → All (OfSort new.arena.kinds t) out

-- the cells from the number of the bits on stand that much further in front
pub record ShiftsLeft (old new : Build) (bits : List Lit) (cells out : List CellId) : Type 0 where
  pub count : length out ≡ length cells
  pub there : All (λ p. p.index < length new.arena.kinds) out
  pub values : (a : List Bool) → Satisfies a new.formula → (q : ℕ) (d : Value) → number (values bits a) ≤ q → q < length cells →
      slice_index_or (map (decode new.arena a) out) (q - number (values bits a)) d ≡ slice_index_or (map (decode old.arena a) cells) q d
  pub sorts : (t : Sort) → All (OfSort old.arena.kinds t) cells → All (OfSort new.arena.kinds t) out

-- the cells stand as far behind as the number of the bits says
pub record ShiftsRight (old new : Build) (bits : List Lit) (cells out : List CellId) : Type 0 where
  pub count : length out + 1 ≡ length cells + 2 ^ length bits
  pub there : All (λ p. p.index < length new.arena.kinds) out
  pub values : (a : List Bool) → Satisfies a new.formula → (q : ℕ) (d : Value) → q < length cells →
      slice_index_or (map (decode new.arena a) out) (q + number (values bits a)) d ≡ slice_index_or (map (decode old.arena a) cells) q d
  pub sorts : (t : Sort) → All (OfSort old.arena.kinds t) cells → All (OfSort new.arena.kinds t) out
