-- The sorts of the cells of types without variables, and of what is made of cells. Source: Konnov, Kukovec and Tran,
-- "TLA+ Model Checking Made Symbolic", OOPSLA 2019, section 4, for cells and their types; the types are those of the
-- Apalache manual, "Type System 1.2: Type annotations".
use Rattle.std.specs.Prelude.{◌≡◌, ℕ, zero, suc, ◌<◌, List, [], ◌∷◌, ◌++◌, length, map, Option, Some, None, option_map}
use Rattle.cell_arena.specs.declared.kinds.CellId.{CellId}
use Rattle.cell_arena.specs.declared.kinds.CellKind.{CellKind}
use Rattle.cell_merge.specs.Sorts.{Sort, OfSort, truth, number, name, set_of, function_of, sequence_of, record_of}
use Rattle.cell_merge.specs.Sorts.{tuple_of}
use Rattle.snowcat_rows.specs.declared.types.Ty.{Ty}
use Rattle.kernel_trees.specs.TypeKinds.{Kind, Truth, Number, Word, Set, Seq, Fun, Tup, Rec, Kinds, no_kinds}
use Rattle.kernel_trees.specs.TypeKinds.{more_kinds, Fields, no_fields, more_fields, kind_of}

-- the sort at a place; past the last any serves
abbrev pub sort_at : List Sort → ℕ → Sort
sort_at [] i = truth
sort_at (s ∷ ss) zero = s
sort_at (s ∷ ss) (suc i) = sort_at ss i

-- the sort of a tuple of parts of these sorts
abbrev pub tuple_sort : List Sort → Sort
tuple_sort ss = tuple_of (length ss) (sort_at ss)

-- the sort of a record of these fields in this order
abbrev pub record_sort : List (List ℕ × Sort) → Sort
record_sort fs = record_of (map (λ f. f.0) fs) (sort_at (map (λ f. f.1) fs))

-- the sort of a kind: texts of any type have one sort, and a record has its fields in the order of their bytes
abbrev mutual
  pub sort_of : Kind → Sort
  sort_of Truth = truth
  sort_of Number = number
  sort_of (Word x) = name
  sort_of (Set a) = set_of (sort_of a)
  sort_of (Seq a) = sequence_of (sort_of a)
  sort_of (Fun a b) = function_of (sort_of a) (sort_of b)
  sort_of (Tup as') = tuple_sort (item_sorts as')
  sort_of (Rec fs) = record_sort (field_sorts fs)

  pub item_sorts : Kinds → List Sort
  item_sorts no_kinds = []
  item_sorts (more_kinds a as') = sort_of a ∷ item_sorts as'

  pub field_sorts : Fields → List (List ℕ × Sort)
  field_sorts no_fields = []
  field_sorts (more_fields x a fs) = (x, sort_of a) ∷ field_sorts fs

-- the sort of a type; none of one without a kind
abbrev pub type_sort : Ty → Option Sort
type_sort t = option_map sort_of (kind_of t)

-- there is a cell, and it is of the sort
abbrev pub HasSort : List CellKind → Sort → Option CellId → Type 0
HasSort ks s None = ⊥
HasSort ks s (Some id) = OfSort ks s id

-- a cell of each of the sorts
abbrev pub OfSorts : List CellKind → List Sort → List CellId → Type 0
OfSorts ks [] [] = Unit {0}
OfSorts ks [] (x ∷ xs) = ⊥
OfSorts ks (s ∷ ss) [] = ⊥
OfSorts ks (s ∷ ss) (x ∷ xs) = OfSort ks s x × OfSorts ks ss xs

-- the cell is there, and of the type's sort
pub record OfType (ks : List CellKind) (t : Ty) (id : CellId) : Type 0 where
  pub there : id.index < length ks
  pub sort : (a : Kind) → kind_of t ≡ Some a → OfSort ks (sort_of a) id

-- ---- names of fields in a kind

abbrev mutual
  pub names_within : Kind → List (List ℕ)
  names_within Truth = []
  names_within Number = []
  names_within (Word x) = []
  names_within (Set a) = names_within a
  names_within (Seq a) = names_within a
  names_within (Fun a b) = names_within a ++ names_within b
  names_within (Tup as') = item_names as'
  names_within (Rec fs) = all_field_names fs

  pub item_names : Kinds → List (List ℕ)
  item_names no_kinds = []
  item_names (more_kinds a as') = names_within a ++ item_names as'

  pub all_field_names : Fields → List (List ℕ)
  all_field_names no_fields = []
  all_field_names (more_fields x a fs) = x ∷ (names_within a ++ all_field_names fs)
