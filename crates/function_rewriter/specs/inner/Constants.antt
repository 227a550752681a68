-- Cells of known values.
use Rattle.std.specs.Prelude.{◌≡◌, ℕ, zero, suc, ◌+◌, ◌<◌, Bool, IsTrue, List, [], ◌∷◌, All, map, length, slice_index_or, pos}
use Rattle.sat_formula.specs.declared.lit.Lit.{Lit}
use Rattle.sat_formula.specs.Formula.{Satisfies}
use Rattle.tla_values.specs.Sets.{member, set_of}
use Rattle.tla_values.specs.declared.value.Value.{Value}
use Rattle.tla_values.specs.declared.value.Value.TheVariants as value
use Rattle.cell_arena.specs.declared.build.Build.{Build}
use Rattle.cell_arena.specs.declared.kinds.CellId.{CellId}
use Rattle.cell_arena.specs.declared.kinds.CellKind.{CellKind}
use Rattle.cell_arena.specs.declared.kinds.CellKind.TheVariants.{Rec}
use Rattle.cell_arena.specs.Cells.{Cells, kind_at}
use Rattle.cell_arena.specs.Decode.{decode, present}
use Rattle.cell_arena.specs.Growth.{Decodes}
use Rattle.cell_merge.specs.Sorts.{Sort, OfSort, set_of as set_sort}
use Rattle.cell_merge.specs.Edges.{LeadTo, AreNamed}

-- the names of a record; of any other kind none
abbrev pub names_of : CellKind → List (List ℕ)
names_of (Rec fs) = map (λ f. f.0) fs
names_of k = []

-- a cell whose names are among the texts
pub record HasNames (c : Cells) (r : CellId) : Type 0 where
  pub there : r.index < length c.kinds
  pub names : All (λ n. IsTrue (member (value.Text n) (map (λ t. value.Text t) c.texts))) (names_of (kind_at c.kinds r))

-- the text at the index is the name at the place
pub record IsNameIndex (c : Cells) (r : CellId) (place index : ℕ) : Type 0 where
  pub within : index < length c.texts
  pub named : slice_index_or c.texts index [] ≡ slice_index_or (names_of (kind_at c.kinds r)) place []

-- the texts at the indexes are the names
pub record AreIndexes (texts names : List (List ℕ)) (indexes : List ℕ) : Type 0 where
  pub within : All (λ i. i < length texts) indexes
  pub named : map (λ i. slice_index_or texts i []) indexes ≡ names

-- the cell has the value, and the sort
pub record IsConstant (b : Build) (s : Sort) (v : Value) (id : CellId) : Type 0 where
  pub cell : Decodes b id (λ a. v)
  pub sort : OfSort b.arena.kinds s id

-- edges to cells with these values, which are always there
pub record ConstantEdges (b : Build) (s : Sort) (vs : List Value) (es : List (Lit × CellId)) : Type 0 where
  pub cells : LeadTo b.arena.kinds s es
  pub named : AreNamed b.formula.vars es
  pub there : (a : List Bool) → Satisfies a b.formula → present a (decode b.arena a) es ≡ vs

-- n numbers from k on
abbrev pub numbers_from : ℕ → ℕ → List Value
numbers_from k zero = []
numbers_from k (suc n) = value.Int (pos k) ∷ numbers_from (k + 1) n

-- the cell is the set of these values, and has the sort of sets of the sort
pub record IsConstantSet (b : Build) (s : Sort) (vs : List Value) (id : CellId) : Type 0 where
  pub value : Decodes b id (λ a. value.Set (set_of vs))
  pub sort : OfSort b.arena.kinds (set_sort s) id
