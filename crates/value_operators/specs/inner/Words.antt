-- The words of two numbers, and what a word and a literal show.
use Rattle.std.specs.Prelude.{◌≡◌, ℕ, Bool, List, if◌then◌else◌, pos, int_le}
use Rattle.sat_formula.specs.declared.lit.Lit.{Lit}
use Rattle.sat_formula.specs.declared.cnf.Cnf.{Cnf}
use Rattle.sat_formula.specs.Formula.{HasValue}
use Rattle.sat_formula.specs.Lit.{lit_value}
use Rattle.word_blaster.specs.Quotient.{IsFloorQuotient, IsFloorRemainder}
use Rattle.word_blaster.specs.Word.{IsWord, word_value}
use Rattle.tla_values.specs.declared.value.Value.TheVariants as value
use Rattle.tla_meaning.specs.declared.outcome.Outcome.{Outcome}
use Rattle.tla_meaning.specs.declared.outcome.Outcome.TheVariants.{Val}
use Rattle.cell_arena.specs.Cells.{Cells as Arena}
use Rattle.cell_arena.specs.Decode.{decode}
use Rattle.cell_arena.specs.declared.kinds.CellId.{CellId}
use Rattle.value_operators.specs.declared.words.Division.{Division}

-- two words of the arena's width, which have the numbers of the cells
pub record AreWordsOf (c : Arena) (x y : CellId) (v w : List Lit) : Type 0 where
  pub first : IsWord c.vars c.width v
  pub second : IsWord c.vars c.width w
  pub left : (a : List Bool) → decode c a x ≡ value.Int (word_value v a)
  pub right : (a : List Bool) → decode c a y ≡ value.Int (word_value w a)

-- the fault where the literal is true, and else the number of the word
abbrev pub number_unless : Lit → Outcome → List Lit → List Bool → Outcome
number_unless l fault word a = if lit_value l a then fault else Val (value.Int (word_value word a))

-- the parts of a division are words, and say what they are named for
pub record Divides (f : Cnf) (width : ℕ) (v w : List Lit) (d : Division) : Type 0 where
  pub quotient : IsWord f.vars width d.quotient
  pub remainder : IsWord f.vars width d.remainder
  pub none : HasValue f d.none (λ a. int_le (word_value w a) (pos 0))
  pub whole : IsFloorQuotient f v w d.quotient
  pub left : IsFloorRemainder f v w d.remainder
