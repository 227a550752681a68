-- The sorts of the cells that the tests make.
use Rattle.std.specs.Prelude.{ℕ, ◌<◌, List, [], ◌∷◌, nat_eq, if◌then◌else◌}
use Rattle.sat_formula.specs.declared.lit.Lit.{Lit}
use Rattle.cell_arena.specs.declared.build.Build.{Build}
use Rattle.cell_arena.specs.declared.kinds.CellId.{CellId}
use Rattle.cell_merge.specs.Sorts.{Sort, OfSort, truth, number, record_of, tuple_of}

-- of two parts the first and the second
abbrev pub either_sort : Sort → Sort → ℕ → Sort
either_sort s t i = if nat_eq i 0 then s else t

abbrev pub two_sort : Sort → Sort → Sort
two_sort s t = tuple_of 2 (either_sort s t)

-- the names n and p
abbrev pub names : List (List ℕ)
names = (110 ∷ []) ∷ (112 ∷ []) ∷ []

abbrev pub pair_sort : Sort
pair_sort = two_sort number truth

abbrev pub entry_sort : Sort
entry_sort = record_of names (either_sort number pair_sort)

-- an arrow from a number to a truth value
pub record IsArrow (b : Build) (e : Lit × CellId × CellId) : Type 0 where
  pub below : e.0.var < b.formula.vars
  pub argument : OfSort b.arena.kinds number e.1
  pub result : OfSort b.arena.kinds truth e.2
