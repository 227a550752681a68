-- What cells and branches are under an assignment.
use Rattle.std.specs.Prelude.{Bool, List, map}
use Rattle.tla_values.specs.declared.value.Value.{Value}
use Rattle.tla_meaning.specs.declared.job.State.{State}
use Rattle.cell_arena.specs.declared.kinds.CellId.{CellId}
use Rattle.cell_arena.specs.Cells.{Cells as Arena}
use Rattle.cell_arena.specs.Decode.{decode}
use Rattle.level_laws.specs.Branches.{BranchReading}
use Rattle.branch_cells.specs.declared.branch.BranchCells.{BranchCells}
use Rattle.branch_cells.specs.Ends.{ends_at}

-- the values of cells, and the state that has them
abbrev pub values_at : Arena → List CellId → List Bool → List Value
values_at c ids a = map (decode c a) ids

abbrev pub state_at : Arena → List CellId → List Bool → State
state_at c ids a = record { vals = values_at c ids a }

-- a branch that leads to states
abbrev pub reading : Arena → BranchCells → BranchReading State
reading c x = record { ends = ends_at x.ends; next = state_at c x.next }
