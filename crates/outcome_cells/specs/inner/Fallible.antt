-- Cells that may have a fault, as their literals say.
use Rattle.std.specs.Prelude.{Bool, not, ◌&&◌, nat_eq}
use Rattle.sat_formula.specs.declared.lit.Lit.{Lit}
use Rattle.outcome_cells.specs.declared.cells.Cells.{Cells}

-- the negation of variable 0
abbrev pub is_never : Lit → Bool
is_never l = nat_eq l.var 0 && l.neg

abbrev pub may_fail : Cells → Bool
may_fail x = not (is_never x.wrong && is_never x.big)
