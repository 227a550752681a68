-- Sets by a literal for each edge.
use Rattle.std.specs.Prelude.{◌≡◌, ℕ, ◌<◌, Bool, true, ◌&&◌, List, [], ◌∷◌, All, length, slice_index_or, if◌then◌else◌}
use Rattle.sat_formula.specs.declared.lit.Lit.{Lit}
use Rattle.sat_formula.specs.Lit.{lit_value}
use Rattle.tla_values.specs.declared.value.Value.{Value}
use Rattle.tla_values.specs.declared.value.Value.TheVariants as value
use Rattle.cell_arena.specs.declared.build.Build.{Build}
use Rattle.cell_arena.specs.Growth.{Decodes}
use Rattle.cell_merge.specs.Sorts.{Sort, OfSort, set_of as set_sort}
use Rattle.cell_arena.specs.declared.kinds.CellId.{CellId}

-- the cell is the set of these members, and has each sort of sets that both have
pub record MakesSet (old new : Build) (x y id : CellId) (members : List Bool → List Value) : Type 0 where
  pub value : Decodes new id (λ a. value.Set (members a))
  pub sort : (s : Sort) → OfSort old.arena.kinds (set_sort s) x → OfSort old.arena.kinds (set_sort s) y → OfSort new.arena.kinds (set_sort s) id

-- the values of the edges that are there and whose other literal is true
abbrev pub kept : List Bool → (CellId → Value) → List (Lit × CellId) → List Lit → List Value
kept a of [] ls = []
kept a of (e ∷ es) [] = []
kept a of (e ∷ es) (l ∷ ls) = if lit_value e.0 a && lit_value l a then of e.1 ∷ kept a of es ls else kept a of es ls

-- at each edge that is there the literal is the test of its value
unfoldable pub KeepsBy : List Bool → (CellId → Value) → List (Lit × CellId) → List Lit → (Value → Bool) → Type 0
KeepsBy a of es ls test =
    (i : ℕ) (e : Lit × CellId) (l : Lit) → i < length es → lit_value (slice_index_or es i e).0 a ≡ true →
    lit_value (slice_index_or ls i l) a ≡ test (of (slice_index_or es i e).1)

-- the edges with other cells
abbrev pub image_edges : List (Lit × CellId) → List CellId → List (Lit × CellId)
image_edges [] xs = []
image_edges (e ∷ es) [] = []
image_edges (e ∷ es) (x ∷ xs) = (e.0, x) ∷ image_edges es xs

-- the cell is the set of these members, and has the sort of sets of each sort that the images have
pub record MapsSet (old new : Build) (images : List CellId) (id : CellId) (members : List Bool → List Value) : Type 0 where
  pub value : Decodes new id (λ a. value.Set (members a))
  pub sort : (s : Sort) → All (OfSort old.arena.kinds s) images → OfSort new.arena.kinds (set_sort s) id

-- the cell is the set of these members, and for each sort that x has as given it has the sort as
-- made
pub record MakesOf (old new : Build) (x id : CellId) (given made : Sort → Sort) (members : List Bool → List Value) : Type 0 where
  pub value : Decodes new id (λ a. value.Set (members a))
  pub sort : (s : Sort) → OfSort old.arena.kinds (given s) x → OfSort new.arena.kinds (made s) id

-- a set of sets of some sort
pub record IsSetOfSets (b : Build) (id : CellId) : Type 0 where
  pub sort : Sort
  pub is : OfSort b.arena.kinds (set_sort (set_sort sort)) id
