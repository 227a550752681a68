-- The sorts of the records and tuples that the tests make.
use Rattle.std.specs.Prelude.{ℕ, List, [], ◌∷◌, All, IsTrue, length, map}
use Rattle.tla_values.specs.Sets.{member}
use Rattle.tla_values.specs.declared.value.Value.TheVariants as value
use Rattle.cell_arena.specs.declared.kinds.CellId.{CellId}
use Rattle.cell_arena.specs.declared.kinds.CellKind.{CellKind}
use Rattle.cell_arena.specs.Cells.{kind_at}
use Rattle.cell_merge.specs.Composites.{parts_of}
use Rattle.cell_merge.specs.Sorts.{Sort, number, record_of, tuple_of}

-- the names n and p
abbrev pub names : List (List ℕ)
names = (110 ∷ []) ∷ (112 ∷ []) ∷ []

-- each of the names is one of the texts
abbrev pub AreTexts : List (List ℕ) → List (List ℕ) → Type 0
AreTexts texts names = All (λ n. IsTrue (member (value.Text n) (map (λ t. value.Text t) texts))) names

-- the fields n and p, both numbers
abbrev pub record_sort : Sort
record_sort = record_of names (λ i. number)

-- so many numbers
abbrev pub tuple_sort : ℕ → Sort
tuple_sort n = tuple_of n (λ i. number)

-- how many parts a tuple has
abbrev pub width_of : List CellKind → CellId → ℕ
width_of ks id = length (parts_of (kind_at ks id))
