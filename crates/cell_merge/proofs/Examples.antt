-- Definitions on small cells, by computation.
use Rattle.std.proofs.Common.{◌≡◌, ℕ, zero, suc, ◌<◌, Bool, true, false, List, [], ◌∷◌, ◌++◌, get_or, pos, refl, arith, nat_eq, if◌then◌else◌}
use Rattle.std.proofs.lemmas.List.Elements.{All-nil, All-cons}
use Rattle.sat_formula.specs.declared.lit.Lit.{Lit}
use Rattle.tla_values.specs.declared.value.Value.{Value}
use Rattle.tla_values.specs.declared.value.Value.TheVariants as value
use Rattle.cell_arena.specs.declared.kinds.CellId.{CellId}
use Rattle.cell_arena.specs.declared.kinds.CellKind.{CellKind}
use Rattle.cell_arena.specs.declared.kinds.CellKind.TheVariants.{Bit, Set, Rec, Tup}
use Rattle.cell_merge.specs.declared.merging.Join.TheVariants.{Either, Chosen}
use Rattle.cell_merge.specs.Edges.{any_edge, joined}
use Rattle.cell_merge.specs.Composites.{parts_of, with_parts_of}
use Rattle.cell_merge.specs.Sorts.{IsBit, IsRecord, OfSort, truth, set_of, tuple_of}

abbrev l : ℕ → Lit
l v = record { var = v; neg = false }

abbrev cell : ℕ → CellId
cell i = record { index = i }

-- variables 0 and 1 are true, variable 2 is false
abbrev a : List Bool
a = true ∷ true ∷ false ∷ []

abbrev of : CellId → Value
of id = value.Int (pos id.index)

edge-there : any_edge a of (λ v. true) ((l 2, cell 4) ∷ (l 1, cell 3) ∷ []) ≡ true
edge-there = refl

no-edge-there : any_edge a of (λ v. true) ((l 2, cell 4) ∷ (l 2, cell 3) ∷ []) ≡ false
no-edge-there = refl

either-one : joined Either a false true ≡ true
either-one = refl

chosen-first : joined (Chosen (l 1)) a true false ≡ true
chosen-first = refl

chosen-second : joined (Chosen (l 2)) a true false ≡ false
chosen-second = refl

-- a bit, and a set with one edge to it
abbrev ks : List CellKind
ks = Bit (l 1) ∷ Set ((l 2, cell 0) ∷ []) ∷ []

set-of-bits : OfSort ks (set_of truth) (cell 1)
set-of-bits = (omega arith, All-cons (λ (e : Lit × CellId). OfSort ks truth e.1) (l 2, cell 0) [] (omega arith, tt) (All-nil _))

set-is-no-bit : IsBit (Set []) ≡ ⊥
set-is-no-bit = refl

-- a record of one field, and a pair of a bit and a set of bits
one-field : parts_of (Rec ((1 ∷ [], cell 3) ∷ [])) ≡ cell 3 ∷ []
one-field = refl

names-stay : with_parts_of (Rec ((1 ∷ [], cell 3) ∷ (2 ∷ [], cell 4) ∷ [])) (cell 5 ∷ cell 6 ∷ []) ≡ Rec ((1 ∷ [], cell 5) ∷ (2 ∷ [], cell 6) ∷ [])
names-stay = refl

pair-of-two-sorts : OfSort (ks ++ Tup (cell 0 ∷ cell 1 ∷ []) ∷ []) (tuple_of 2 (λ i. if nat_eq i 0 then truth else set_of truth)) (cell 2)
pair-of-two-sorts = (omega arith, (refl, places))
  where
    places : (i : ℕ) (d : CellId) → i < 2 → OfSort (ks ++ Tup (cell 0 ∷ cell 1 ∷ []) ∷ []) (if nat_eq i 0 then truth else set_of truth) (get_or (cell 0 ∷ cell 1 ∷ []) i d)
    places zero d lt = (omega arith, tt)
    places (suc zero) d lt = (omega arith, All-cons (λ (e : Lit × CellId). OfSort (ks ++ Tup (cell 0 ∷ cell 1 ∷ []) ∷ []) truth e.1) (l 2, cell 0) [] (omega arith, tt) (All-nil _))
    places (suc (suc i)) d lt = absurd (omega arith)

tuple-is-no-record : IsRecord [] (λ i id. Unit {0}) (Tup []) ≡ ⊥
tuple-is-no-record = refl
