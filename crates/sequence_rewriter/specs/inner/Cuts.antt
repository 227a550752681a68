-- Where a part of a sequence begins and how long it is.
use Rattle.std.specs.Prelude.{◌≡◌, ℕ, ◌+◌, ◌-◌, ◌<◌, ◌≤◌, ◌==◌, ◌⊎◌, nat_lt, int_lt, not, ◌&&◌, Bool, true, false, List, length, take, drop, Some, None, ℤ, if◌then◌else◌}
use Rattle.sat_formula.specs.declared.lit.Lit.{Lit}
use Rattle.sat_formula.specs.declared.cnf.Cnf.{Cnf}
use Rattle.sat_formula.specs.Lit.{lit_value}
use Rattle.sat_formula.specs.Formula.{Satisfies, HasValue}
use Rattle.word_blaster.specs.Word.{WordBelow, number, values}
use Rattle.tla_values.specs.declared.value.Value.{Value}
use Rattle.cell_arena.specs.declared.kinds.CellId.{CellId}
use Rattle.cell_arena.specs.Cells.{Cells}
use Rattle.cell_arena.specs.Decode.{decode}
use Rattle.sequence_rewriter.specs.Sequences.{int_of, part_of}
use Rattle.sequence_rewriter.specs.inner.Lengths.{IsIndexOf}
use Rattle.sequence_rewriter.specs.declared.slicing.Cut.{Cut}
use Rattle.sequence_rewriter.specs.declared.slicing.Ends.{Ends}

-- the part of the items is so many of them behind so many, or there is none
pub record IsCutOf (xs : List Value) (m n : ℤ) (wrong : Bool) (count shift : ℕ) : Type 0 where
  pub part : ((wrong ≡ true) × (part_of xs m n ≡ None)) ⊎ ((wrong ≡ false) × (part_of xs m n ≡ Some (take count (drop shift xs))))
  pub within : (count ≡ 0) ⊎ (count + shift ≤ length xs)

-- the number where the literal is true, and else 0
pub record IsMasked (f : Cnf) (l : Lit) (bits out : List Lit) : Type 0 where
  pub below : WordBelow f.vars out
  pub long : length out ≡ length bits
  pub value : (a : List Bool) → Satisfies a f → number (values out a) ≡ (if lit_value l a then number (values bits a) else 0)

-- the bits with zeros above them
pub record IsLonger (f : Cnf) (bits : List Lit) (n : ℕ) (out : List Lit) : Type 0 where
  pub below : WordBelow f.vars out
  pub long : length out ≡ n
  pub value : (a : List Bool) → Satisfies a f → number (values out a) ≡ number (values bits a)

-- from place m on and up to place n, which are among the first ones, as many as the bits say
abbrev pub is_fine : Bool → Bool → Bool → ℕ → ℕ → ℕ → Bool
is_fine empty m_valid n_valid m n len = not empty && (m_valid && (not (m == 0) && (n_valid && not (nat_lt len n))))

-- the numbers that two cells mean in s, and a literal that is true where the second is below the first
pub record AreEnds (c : Cells) (f : Cnf) (s m n : CellId) (ends : Ends) : Type 0 where
  pub first : IsIndexOf c f s m ends.first
  pub last : IsIndexOf c f s n ends.last
  pub empty : HasValue f ends.empty (λ a. int_lt (int_of (decode c a n)) (int_of (decode c a m)))

-- the variables of the ends are of the formula
pub record AreBelow (v : ℕ) (ends : Ends) : Type 0 where
  pub first : WordBelow v ends.first.bits.items
  pub starts : ends.first.valid.var < v
  pub last : WordBelow v ends.last.bits.items
  pub reaches : ends.last.valid.var < v
  pub empty : ends.empty.var < v

-- the ends are among the first places, as many as the bits say, and something is between them
abbrev pub ends_fit : Ends → List Lit → List Bool → Bool
ends_fit ends bits a = is_fine (lit_value ends.empty a) (lit_value ends.first.valid a) (lit_value ends.last.valid a) (number (values ends.first.bits.items a)) (number (values ends.last.bits.items a)) (number (values bits a))

-- how many places stand before the first end, and a literal that is true where the ends fit
pub record IsStart (f : Cnf) (ends : Ends) (bits : List Lit) (r : List Lit × Lit) : Type 0 where
  pub below : WordBelow f.vars r.0
  pub value : (a : List Bool) → Satisfies a f → number (values r.0 a) ≡ number (values ends.first.bits.items a) - 1
  pub fine : HasValue f r.1 (ends_fit ends bits)

-- so many less as the other number says, where the literal is true, and else 0
pub record IsSpan (f : Cnf) (l : Lit) (last shift out : List Lit) : Type 0 where
  pub below : WordBelow f.vars out
  pub value : (a : List Bool) → Satisfies a f → (lit_value l a ≡ true → number (values shift a) ≤ number (values last a)) →
      number (values out a) ≡ (if lit_value l a then number (values last a) - number (values shift a) else 0)

-- what the ends say of a cut
pub record CutsAt (f : Cnf) (ends : Ends) (bits : List Lit) (cut : Cut) : Type 0 where
  pub shift : WordBelow f.vars cut.shift.items
  pub count : WordBelow f.vars cut.count.items
  pub wrong : HasValue f cut.wrong (λ a. not (lit_value ends.empty a) && not (ends_fit ends bits a))
  pub start : (a : List Bool) → Satisfies a f → number (values cut.shift.items a) ≡ number (values ends.first.bits.items a) - 1
  pub span : (a : List Bool) → Satisfies a f → (ends_fit ends bits a ≡ true → number (values ends.first.bits.items a) - 1 ≤ number (values ends.last.bits.items a)) →
      number (values cut.count.items a) ≡ (if ends_fit ends bits a then number (values ends.last.bits.items a) - (number (values ends.first.bits.items a) - 1) else 0)
