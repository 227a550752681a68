-- The literals of truth values.
use Rattle.std.specs.Prelude.{◌≡◌, Bool, List, map, All}
use Rattle.sat_formula.specs.declared.lit.Lit.{Lit}
use Rattle.sat_formula.specs.Lit.{IsBelow, lit_value}
use Rattle.tla_values.specs.declared.value.Value.TheVariants as value
use Rattle.cell_arena.specs.Cells.{Cells as Arena}
use Rattle.outcome_cells.specs.declared.cells.Cells.{Cells}
use Rattle.outcome_cells.specs.Shows.{cell_values}

-- the literals, which are the arena's, have the values of the cells, in their order
pub record AreBits (c : Arena) (xs : List Cells) (ls : List Lit) : Type 0 where
  pub named : All (IsBelow c.vars) ls
  pub values : (a : List Bool) → cell_values c a xs ≡ map (λ l. value.Bool (lit_value l a)) ls
