-- Whether an item stands at a place.
use Rattle.std.specs.Prelude.{ℕ, length, nat_lt, not}
use Rattle.sat_formula.specs.declared.lit.Lit.{Lit}
use Rattle.sat_formula.specs.declared.cnf.Cnf.{Cnf}
use Rattle.sat_formula.specs.Formula.{HasValue}
use Rattle.cell_arena.specs.declared.kinds.CellId.{CellId}
use Rattle.cell_arena.specs.Cells.{Cells as Arena}
use Rattle.cell_arena.specs.Decode.{decode}
use Rattle.member_choices.specs.Folds.{items_in}

-- true where no item of the sequence stands at the place
abbrev pub IsAbsent : Arena → Cnf → CellId → ℕ → Lit → Type 0
IsAbsent c f s i l = HasValue f l (λ a. not (nat_lt i (length (items_in (decode c a s)))))
