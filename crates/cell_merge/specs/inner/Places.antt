-- Two sequences, place by place.
use Rattle.std.specs.Prelude.{◌≡◌, ℕ, zero, suc, Bool, true, false, not, ◌&&◌, ◌||◌, nat_lt, ℤ, pos, negsuc, List, All, map, slice_index_or}
use Rattle.std.specs.List.{list_all}
use Rattle.std.specs.Ordering.{int_eq}
use Rattle.sat_formula.specs.declared.lit.Lit.{Lit}
use Rattle.sat_formula.specs.declared.cnf.Cnf.{Cnf}
use Rattle.sat_formula.specs.Lit.{lit_value, IsBelow}
use Rattle.sat_formula.specs.Formula.{Satisfies}
use Rattle.word_blaster.specs.Word.{word_value}
use Rattle.tla_values.specs.Order.{same_value}
use Rattle.tla_values.specs.declared.value.Value.{Value}
use Rattle.tla_values.specs.declared.value.Value.TheVariants as value
use Rattle.cell_arena.specs.declared.kinds.CellId.{CellId}
use Rattle.cell_arena.specs.declared.kinds.CellKind.{CellKind}
use Rattle.cell_arena.specs.Cells.{Cells}
use Rattle.cell_arena.specs.Decode.{decode}
use Rattle.cell_merge.specs.Arrows.{length_word}
use Rattle.cell_merge.specs.Composites.{parts_of}

-- each number below n passes
abbrev pub all_below : ℕ → (ℕ → Bool) → Bool
all_below zero p = true
all_below (suc n) p = all_below n p && p n

-- a length that is greater than the place
abbrev pub reaches : ℤ → ℕ → Bool
reaches (pos n) i = nat_lt i n
reaches (negsuc n) i = false

-- the value of the part at a place
abbrev pub part_value : (CellId → Value) → CellKind → ℕ → Value
part_value of k i = slice_index_or (map of (parts_of k)) i (value.Bool false)

-- literals that are true together where the lengths are equal and so are the first n places within them
pub record TestsPlaces (c : Cells) (f : Cnf) (k m : CellKind) (n : ℕ) (ls : List Lit) : Type 0 where
  pub named : All (IsBelow f.vars) ls
  pub values : (a : List Bool) → Satisfies a f → let of = decode c a in let long = word_value (length_word k) a in
      list_all (λ l. lit_value l a) ls ≡ (int_eq long (word_value (length_word m) a) && all_below n (λ i. not (reaches long i) || same_value (part_value of k i) (part_value of m i)))
