-- What an operator on functions, records, tuples or sequences gives of older cells: its row of the table at their
-- values. Source: Konnov, Kukovec and Tran, "TLA+ Model Checking Made Symbolic", OOPSLA 2019, section 5, for operators
-- over cells; Specifying Systems, sections 16.1.7 to 16.1.9, for functions, records and tuples, and 18.1, for
-- sequences.
use Rattle.std.specs.Prelude.{ℕ, List, [], ◌∷◌, All, map, Some, pos}
use Rattle.tla_values.specs.declared.value.Value.{Value}
use Rattle.tla_meaning.specs.declared.op.Op.{Op}
use Rattle.tla_meaning.specs.declared.op.Op.TheVariants as op
use Rattle.tla_meaning.specs.declared.outcome.Outcome.{Outcome}
use Rattle.tla_meaning.specs.declared.place.Place.{Place}
use Rattle.tla_meaning.specs.Numbers.{number as number_outcome}
use Rattle.tla_meaning.specs.Operators.{table}
use Rattle.tla_meaning.specs.Outcomes.{with_value}
use Rattle.cell_arena.specs.declared.build.Build.{Build}
use Rattle.cell_arena.specs.declared.kinds.CellId.{CellId}
use Rattle.cell_arena.specs.Decode.{decode}
use Rattle.cell_merge.specs.Sorts.{Sort, OfSort, number, name, set_of, function_of, sequence_of, record_of, tuple_of}
use Rattle.outcome_cells.specs.declared.cells.Cells.{Cells}
use Rattle.outcome_cells.specs.Rows.{IsRow, ShowsAt}
use Rattle.typed_cells.specs.Known.{IsTextAmong}

-- the cells show what the operator gives of the values that these had, whichever they were
abbrev pub HasRow : Build → Build → Op → List CellId → Cells → Type 0
HasRow old new o xs r = IsRow new o (λ a. map (decode old.arena a) xs) r

-- a tuple at a number, which is evaluated too: it is Big where it is outside of the width
abbrev pub item_outcome : ℕ → Place → Value → ℕ → Outcome
item_outcome w p t i = with_value (number_outcome (Some w) p (pos i)) (λ n. table (Some w) p op.Apply (t ∷ n ∷ []))

-- the cells show the tuple at the number
abbrev pub HasItemRow : Build → CellId → ℕ → Cells → Type 0
HasItemRow b t i r = ShowsAt b r (λ a p. item_outcome b.arena.width p (decode b.arena a t) i)

-- a function, a sequence, a tuple, or a record whose names are texts of the build
pub data HasArguments (b : Build) (f : CellId) : Type 0 where
  of_function : (s t : Sort) → OfSort b.arena.kinds (function_of s t) f → HasArguments b f
  of_sequence : (s : Sort) → OfSort b.arena.kinds (sequence_of s) f → HasArguments b f
  of_tuple : (n : ℕ) (s : ℕ → Sort) → OfSort b.arena.kinds (tuple_of n s) f → HasArguments b f
  of_record : (names : List (List ℕ)) (s : ℕ → Sort) → OfSort b.arena.kinds (record_of names s) f →
      All (IsTextAmong b.arena.texts) names → HasArguments b f

-- the sort of the domain of what has one
abbrev pub domain_sort : Sort → Sort
domain_sort (function_of s t) = set_of s
domain_sort (sequence_of s) = set_of number
domain_sort (tuple_of n s) = set_of number
domain_sort (record_of names s) = set_of name
domain_sort s = s
