-- Ranges of numbers that are known to lie between two bounds. Source: Specifying Systems, section 18.4, for `..`;
-- Konnov, Kukovec and Tran, "TLA+ Model Checking Made Symbolic", OOPSLA 2019, on static bounds.
use Rattle.std.specs.Prelude.{◌≡◌, Bool, true, false, ◌&&◌, List, [], ◌∷◌, Some, ℤ, int_le}
use Rattle.std.specs.List.{list_all}
use Rattle.sat_formula.specs.Formula.{Satisfies}
use Rattle.tla_values.specs.Order.{Layer}
use Rattle.tla_values.specs.declared.value.Value.{Value, out-Value}
use Rattle.tla_values.specs.declared.value.Value.TheOpen as layer
use Rattle.tla_meaning.specs.Numbers.{range}
use Rattle.tla_meaning.specs.Operators.{table}
use Rattle.tla_meaning.specs.declared.op.Op.TheVariants as op
use Rattle.tla_meaning.specs.declared.place.Place.{Place}
use Rattle.cell_arena.specs.declared.build.Build.{Build}
use Rattle.cell_arena.specs.declared.kinds.CellId.{CellId}
use Rattle.cell_arena.specs.Decode.{decode}
use Rattle.outcome_cells.specs.declared.cells.Cells.{Cells}
use Rattle.outcome_cells.specs.Shows.{Shows}

-- a number from low to high
abbrev pub is_between : ℤ → ℤ → Layer Value → Bool
is_between low high (layer.Int n) = int_le low n && int_le n high
is_between low high x = false

-- each number from the first to the second lies from low to high, which may be any where there is none
abbrev pub lie_between : ℤ → ℤ → Layer Value → Layer Value → Bool
lie_between low high (layer.Int m) (layer.Int n) = list_all (λ v. is_between low high (out-Value v)) (range m n)
lie_between low high x y = true

-- under each satisfying assignment at which the numbers from x to y lie from low to high, the cells show the row of
-- `..`
pub record ShowsRange (old new : Build) (x y : CellId) (low high : ℤ) (r : Cells) : Type 0 where
  pub shows : (a : List Bool) → Satisfies a new.formula →
      lie_between low high (out-Value (decode old.arena a x)) (out-Value (decode old.arena a y)) ≡ true → (p : Place) →
      Shows new.arena a r (table (Some new.arena.width) p op.Range (decode old.arena a x ∷ decode old.arena a y ∷ []))
