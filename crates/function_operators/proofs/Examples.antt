-- What the definitions say of small values, by computing.
use Rattle.std.proofs.Common.{◌≡◌, ℕ, Bool, true, false, List, [], ◌∷◌, Some, None, pos, refl, arith}
use Rattle.tla_values.specs.declared.value.Value.{Value}
use Rattle.tla_values.specs.declared.value.Value.TheVariants as value
use Rattle.tla_meaning.specs.declared.outcome.Outcome.TheVariants.{Wrong, Big}
use Rattle.tla_meaning.specs.declared.place.Place.{Place}
use Rattle.tla_meaning.specs.Meaning.{Outside}
use Rattle.cell_arena.specs.declared.kinds.CellId.{CellId}
use Rattle.cell_arena.specs.Cells.{Cells as Arena}
use Rattle.cell_merge.specs.Sorts.{Sort, truth, number, name, set_of, function_of, sequence_of, record_of, tuple_of}
use Rattle.function_operators.specs.declared.index.Index.TheVariants as index
use Rattle.function_operators.specs.Operands.{domain_sort, item_outcome}
use Rattle.function_operators.specs.Parts.{HasPart}
use Rattle.function_operators.specs.Updates.{outside_of, reached}

-- at width 4 the number 8 does not fit, whether the tuple has an item there or not
item_eight : (p : Place) (t : Value) → item_outcome 4 p t 8 ≡ Big p
item_eight p t = refl

-- a number is Wrong past the end and at a value that is no function
item_of_number : (p : Place) → item_outcome 4 p (value.Int (pos 3)) 2 ≡ Wrong p
item_of_number p = simp (value.outs-Int)

-- domains are of numbers, of texts, of what a function takes
of_sequences : domain_sort (sequence_of truth) ≡ set_of number
of_sequences = refl

of_records : (s : ℕ → Sort) → domain_sort (record_of ((97 ∷ []) ∷ []) s) ≡ set_of name
of_records s = refl

of_functions : domain_sort (function_of truth number) ≡ set_of truth
of_functions = refl

-- the second part of a tuple, and no part at 0 or of a function
second : (s : ℕ → Sort) → HasPart [] (index.Number 2) (tuple_of 2 s) (s 1)
second s = (omega arith, (omega arith, refl))

no_first : (s : ℕ → Sort) → HasPart [] (index.Number 0) (tuple_of 2 s) (s 0) → ⊥
no_first s h = let one = h.0 in omega arith

no_literal : HasPart [] (index.Number 1) (function_of number truth) truth → ⊥
no_literal h = h

-- without a cell the index is outside, and so it is where the literal is true
nowhere : (c : Arena) (a : List Bool) → reached c a None ≡ Outside
nowhere c a = refl

outside_here : (c : Arena) (id : CellId) → reached c (true ∷ []) (Some (id, record { var = 0; neg = false })) ≡ Outside
outside_here c id = refl

outside_always : (a : List Bool) → outside_of a None ≡ true
outside_always a = refl
