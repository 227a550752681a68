-- Cells of known values, and sets of edges. Source: Konnov, Kukovec and Tran, "TLA+ Model Checking Made Symbolic",
-- OOPSLA 2019, section 4 (a constant is a cell of its own, a set has an edge to each of its possible members).
use Rattle.std.specs.Prelude.{◌≡◌, ℕ, Bool, false, IsTrue, List, map, not, ℤ}
use Rattle.sat_formula.specs.declared.lit.Lit.{Lit}
use Rattle.sat_formula.specs.Lit.{lit_value}
use Rattle.sat_formula.specs.Formula.{HasValue, Satisfies}
use Rattle.tla_values.specs.Integers.{fits_width}
use Rattle.tla_values.specs.Sets.{member, set_of}
use Rattle.tla_values.specs.declared.value.Value.{Value}
use Rattle.tla_values.specs.declared.value.Value.TheVariants as value
use Rattle.cell_arena.specs.declared.build.Build.{Build}
use Rattle.cell_arena.specs.declared.kinds.CellId.{CellId}
use Rattle.cell_arena.specs.Decode.{decode, present}
use Rattle.cell_arena.specs.Growth.{Decodes}
use Rattle.cell_merge.specs.Edges.{LeadTo}
use Rattle.cell_merge.specs.Sorts.{Sort, OfSort, number, set_of as set_sort}

-- the text is one of these
abbrev pub IsTextAmong : List (List ℕ) → List ℕ → Type 0
IsTextAmong texts x = IsTrue (member (value.Text x) (map (λ t. value.Text t) texts))

-- the cell has the value under each satisfying assignment, and is of the sort
pub record IsKnownCell (b : Build) (s : Sort) (v : Value) (id : CellId) : Type 0 where
  pub cell : Decodes b id (λ a. v)
  pub sort : OfSort b.arena.kinds s id

-- the cell is the number where this fits the width, from -2^(w-1) to 2^(w-1) - 1, and the literal says that it does not
pub record IsNumber (b : Build) (n : ℤ) (r : CellId × Lit) : Type 0 where
  pub sort : OfSort b.arena.kinds number r.0
  pub outside : HasValue b.formula r.1 (λ a. not (fits_width b.arena.width n))
  pub value : (a : List Bool) → Satisfies a b.formula → lit_value r.1 a ≡ false → decode b.arena a r.0 ≡ value.Int n

-- the cell is the set of the edges' members, and has the sort of sets of each sort to which they lead
pub record IsSetOfEdges (old new : Build) (es : List (Lit × CellId)) (id : CellId) : Type 0 where
  pub value : Decodes new id (λ a. value.Set (set_of (present a (decode old.arena a) es)))
  pub sort : (s : Sort) → LeadTo old.arena.kinds s es → OfSort new.arena.kinds (set_sort s) id
