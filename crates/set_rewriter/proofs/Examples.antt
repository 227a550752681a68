-- Definitions on small sets and numbers, by computation.
use Rattle.std.proofs.Common.{◌≡◌, ℕ, Bool, true, false, List, [], ◌∷◌, ℤ, pos, refl, ap, ◌∙◌}
use Rattle.std.specs.Prelude.{◌&&◌, ◌-ℤ◌, int_le}
use Rattle.sat_formula.specs.declared.lit.Lit.{Lit}
use Rattle.tla_values.specs.declared.value.Value.{Value}
use Rattle.tla_values.specs.declared.value.Value.TheVariants as value
use Rattle.cell_arena.specs.declared.kinds.CellId.{CellId}
use Rattle.cell_arena.specs.declared.kinds.CellKind.TheVariants.{Bit, Set}
use Rattle.cell_merge.specs.Edges.{edges_of}
use Rattle.set_rewriter.specs.Edges.{image_edges, kept}
use Rattle.set_rewriter.specs.Ranges.{count_of, int_of, lies, range}
use Rattle.set_rewriter.proofs.Numbers.{int_of-int}

abbrev l : ℕ → Lit
l v = record { var = v; neg = false }

abbrev not-l : ℕ → Lit
not-l v = record { var = v; neg = true }

abbrev cell : ℕ → CellId
cell i = record { index = i }

abbrev int : ℕ → Value
int n = value.Int (pos n)

-- variables 0 and 1 are true, variable 2 is false
abbrev a : List Bool
a = true ∷ true ∷ false ∷ []

abbrev of : CellId → Value
of id = value.Int (pos id.index)

abbrev es : List (Lit × CellId)
es = (l 1, cell 3) ∷ (l 2, cell 4) ∷ (not-l 2, cell 5) ∷ (l 0, cell 6) ∷ []

edges-of-set : edges_of (Set es) ≡ es
edges-of-set = refl

edges-of-bit : edges_of (Bit (l 1)) ≡ []
edges-of-bit = refl

-- an edge is kept where it is there and its other literal is true
kept-there : kept a of es (l 0 ∷ l 0 ∷ l 1 ∷ l 2 ∷ []) ≡ int 3 ∷ int 5 ∷ []
kept-there = refl

kept-of-fewer : kept a of es (l 0 ∷ []) ≡ int 3 ∷ []
kept-of-fewer = refl

images : image_edges ((l 1, cell 3) ∷ (l 2, cell 4) ∷ []) (cell 7 ∷ cell 8 ∷ []) ≡ (l 1, cell 7) ∷ (l 2, cell 8) ∷ []
images = refl

range-up : range (pos 1) (pos 3) ≡ int 1 ∷ int 2 ∷ int 3 ∷ []
range-up = refl

range-through-zero : range (pos 0 -ℤ pos 1) (pos 1) ≡ value.Int (pos 0 -ℤ pos 1) ∷ int 0 ∷ int 1 ∷ []
range-through-zero = refl

range-of-one : range (pos 4) (pos 4) ≡ int 4 ∷ []
range-of-one = refl

range-down : range (pos 3) (pos 2) ≡ []
range-down = refl

count-of-range : count_of (pos 0 -ℤ pos 2) (pos 2) ≡ 5
count-of-range = refl

lies-ints : (x y n : ℤ) → lies (value.Int x) (value.Int y) (value.Int n) ≡ (int_le x n && int_le n y)
lies-ints x y n = ap (λ m. int_le m (int_of (value.Int n)) && int_le (int_of (value.Int n)) (int_of (value.Int y))) (int_of-int x)
    ∙ ap (λ m. int_le x m && int_le m (int_of (value.Int y))) (int_of-int n)
    ∙ ap (λ m. int_le x n && int_le n m) (int_of-int y)

number-inside : lies (int 1) (int 3) (int 2) ≡ true
number-inside = lies-ints (pos 1) (pos 3) (pos 2)

number-at-end : lies (int 1) (int 3) (int 3) ≡ true
number-at-end = lies-ints (pos 1) (pos 3) (pos 3)

number-above : lies (int 1) (int 3) (int 4) ≡ false
number-above = lies-ints (pos 1) (pos 3) (pos 4)
