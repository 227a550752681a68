-- The numbers up to the length of a sequence.
use Rattle.std.specs.Prelude.{◌≡◌, ℕ, zero, suc, ◌+◌, nat_lt, Bool, IsTrue, List, [], ◌∷◌, take, pos}
use Rattle.sat_formula.specs.declared.lit.Lit.{Lit}
use Rattle.sat_formula.specs.Formula.{Satisfies, HasValue}
use Rattle.word_blaster.specs.Word.{number, values}
use Rattle.tla_values.specs.Integers.{fits_width}
use Rattle.tla_values.specs.declared.value.Value.{Value}
use Rattle.tla_values.specs.declared.value.Value.TheVariants as value
use Rattle.cell_arena.specs.declared.build.Build.{Build}
use Rattle.cell_arena.specs.declared.kinds.CellId.{CellId}
use Rattle.cell_arena.specs.Decode.{decode, present}
use Rattle.cell_merge.specs.Sorts.{OfSort, number as number_sort}
use Rattle.cell_merge.specs.Edges.{LeadTo, AreNamed}

-- n numbers from k on
abbrev pub numbers_from : ℕ → ℕ → List Value
numbers_from k zero = []
numbers_from k (suc n) = value.Int (pos k) ∷ numbers_from (k + 1) n

-- the cell is the number, where that fits the width
pub record IsNumberCell (b : Build) (n : ℕ) (id : CellId) : Type 0 where
  pub number : (a : List Bool) → Satisfies a b.formula → IsTrue (fits_width b.arena.width (pos n)) → decode b.arena a id ≡ value.Int (pos n)
  pub sort : OfSort b.arena.kinds number_sort id

-- an edge to the number of the place, from 1, which is there where the number of the bits is above the place
pub record IsCountedEdge (b : Build) (bits : List Lit) (place : ℕ) (e : Lit × CellId) : Type 0 where
  pub there : HasValue b.formula e.0 (λ a. nat_lt place (number (values bits a)))
  pub cell : IsNumberCell b (place + 1) e.1

-- edges to the numbers from 1 to n, of which the first ones are there, as many as the bits say, where that fits the width
pub record CountsTo (b : Build) (bits : List Lit) (n : ℕ) (es : List (Lit × CellId)) : Type 0 where
  pub cells : LeadTo b.arena.kinds number_sort es
  pub named : AreNamed b.formula.vars es
  pub there : (a : List Bool) → Satisfies a b.formula → IsTrue (fits_width b.arena.width (pos (number (values bits a)))) →
      present a (decode b.arena a) es ≡ take n (numbers_from 1 (number (values bits a)))
