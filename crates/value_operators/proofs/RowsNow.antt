-- What a caller makes of a row whose operands may have faults: the row at the values that their cells have by now,
-- which `operator_shown` of the cells of outcomes puts behind the faults.
use Rattle.std.proofs.Common.{◌≡◌, Bool, List, map, sym, ◌∙◌, ap, Some}
use Rattle.std.proofs.lemmas.Simd.{map-map}
use Rattle.tla_meaning.specs.declared.op.Op.{Op}
use Rattle.tla_meaning.specs.Operators.{table}
use Rattle.cell_arena.specs.declared.build.Build.{Build}
use Rattle.cell_arena.specs.declared.kinds.CellId.{CellId}
use Rattle.cell_arena.specs.Decode.{decode}
use Rattle.cell_arena.specs.Growth.{Grows}
use Rattle.cell_merge.specs.Sorts.{Sort}
use Rattle.outcome_cells.specs.declared.cells.Cells.{Cells}
use Rattle.outcome_cells.specs.Rows.{IsRow}
use Rattle.outcome_cells.specs.Shows.{AllCells, cell_values}
use Rattle.outcome_cells.proofs.Later.{ShowsAt-same, cell_values-later}
use Rattle.value_operators.specs.Operands.{HasRow}

-- the cells alone
abbrev pub cells_of : List Cells → List CellId
cells_of xs = map (λ x. x.cell) xs

-- the values that operands had are those that they have
pub values-now : (old new : Build) (a : List Bool) (ss : List Sort) (xs : List Cells) → Grows old new →
    AllCells old ss xs → map (decode old.arena a) (cells_of xs) ≡ cell_values new.arena a xs
values-now old new a ss xs g h =
    map-map (decode old.arena a) (λ (x : Cells). x.cell) xs ∙ sym (cell_values-later old new a ss xs g h)

pub row-now : (old new : Build) (o : Op) (ss : List Sort) (xs : List Cells) (own : Cells) → Grows old new →
    AllCells old ss xs → HasRow old new o (cells_of xs) own → IsRow new o (λ a. cell_values new.arena a xs) own
row-now old new o ss xs own g h row =
    ShowsAt-same new own _ _ row (λ a s p. ap (table (Some new.arena.width) p o) (values-now old new a ss xs g h))
