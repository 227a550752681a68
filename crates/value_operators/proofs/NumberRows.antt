-- Rows of operators on numbers, from their words.
use Rattle.std.proofs.Common.{◌≡◌, ℕ, suc, ◌<◌, ◌≤◌, Bool, true, List, [], ◌∷◌, map, length, sym, ◌∙◌, ap, Some, ℤ, pos, negsuc, arith, not, ◌-◌, ◌^◌, int_lt}
use Rattle.std.specs.Prelude.{int_le, nat_lt}
use Rattle.std.proofs.lemmas.Int.{ints}
use Rattle.std.proofs.lemmas.Nat.{pow_pos}
use Rattle.std.proofs.lemmas.Bool.Decides.{nat_tests}
use Rattle.sat_formula.specs.declared.cnf.Cnf.{Cnf}
use Rattle.sat_formula.specs.declared.lit.Lit.{Lit}
use Rattle.sat_formula.specs.Lit.{lit_value, values}
use Rattle.sat_formula.specs.Formula.{Satisfies, HasValue}
use Rattle.word_blaster.specs.Word.{AreWords, IsExact, IsWord, word_value}
use Rattle.word_blaster.proofs.Signs.{fits_own}
use Rattle.word_blaster.proofs.Words.{WordBelow-later, values-length}
use Rattle.tla_values.specs.declared.value.Value.{Value, out-Value}
use Rattle.tla_meaning.specs.declared.op.Op.{Op}
use Rattle.tla_meaning.specs.declared.outcome.Outcome.{Outcome}
use Rattle.tla_meaning.specs.declared.outcome.Outcome.TheVariants.{Wrong, Big}
use Rattle.tla_meaning.specs.declared.place.Place.{Place}
use Rattle.tla_meaning.specs.Numbers.{number}
use Rattle.tla_meaning.specs.Operators.{table, on_numbers}
use Rattle.cell_arena.specs.declared.build.Build.{Build}
use Rattle.cell_arena.specs.declared.kinds.CellId.{CellId}
use Rattle.cell_arena.specs.Cells.{Cells as Arena}
use Rattle.cell_arena.specs.Decode.{decode}
use Rattle.cell_arena.specs.Growth.{Grows}
use Rattle.cell_arena.proofs.Growing.{Satisfies-before}
use Rattle.outcome_cells.specs.declared.cells.Cells.{Cells}
use Rattle.outcome_cells.specs.Rows.{ShowsAt}
use Rattle.value_operators.specs.Operands.{HasRow}
use Rattle.value_operators.specs.inner.Words.{AreWordsOf, number_unless}
use Rattle.value_operators.proofs.Rows.{numbers-row, big-row, wrong-row}
use Rattle.value_operators.proofs.NewCells.{row-by}

-- the words in a formula over the arena
pub word-in : (c : Arena) (n : ℕ) (w : List Lit) → IsWord c.vars c.width w → c.vars ≤ n → IsWord n c.width w
word-in c n w h le = record { below = WordBelow-later c.vars n w h.below le; width = h.width }

pub both-in : (c : Arena) (n : ℕ) (x y : CellId) (v w : List Lit) → AreWordsOf c x y v w → c.vars ≤ n → AreWords n v w
both-in c n x y v w h le = record {
  left = WordBelow-later c.vars n v h.first.below le;
  right = WordBelow-later c.vars n w h.second.below le;
  same = h.first.width ∙ sym h.second.width;
}

-- the word of 0 has its number
pub zero-word : (f : Cnf) (width : ℕ) (w : List Lit) (l : Lit) (a : List Bool) → 0 < width →
    IsExact f width w l (λ a. pos 0) → Satisfies a f → word_value w a ≡ pos 0
zero-word f width w l a some h s =
    let fits : nat_lt 0 (2 ^ (width - 1)) ≡ true = grind (arith, nat_tests, pow_pos) in
    h.value a s (h.outside.value a s ∙ ap not fits)

pub not-above : (t : Bool) (m n : ℤ) → t ≡ int_lt n m → n ≡ pos 0 → not t ≡ int_le m (pos 0)
not-above t m n e z = ap not (e ∙ ap (λ (k : ℤ). int_lt k m) z) ∙ at-most m
  where
    at-most : (m : ℤ) → not (int_lt (pos 0) m) ≡ int_le m (pos 0)
    at-most m = grind (arith, ints, nat_tests)

-- the operator's row is one of two numbers
abbrev pub IsOnNumbers : ℕ → Op → (Place → ℤ → ℤ → Outcome) → Type 0
IsOnNumbers n o row = (p : Place) (vs : List Value) → table (Some n) p o vs ≡ on_numbers p (row p) (map out-Value vs)

-- what is asked of the row of a quotient or of what is left: by a divisor that is not above 0 there is none
pub record IsDividing (n : ℕ) (o : Op) (exact : ℤ → ℕ → ℤ) (row : Place → ℤ → ℤ → Outcome) : Type 0 where
  pub is : IsOnNumbers n o row
  pub zeroth : (p : Place) (m : ℤ) → row p m (pos 0) ≡ Wrong p
  pub below : (p : Place) (m : ℤ) (k : ℕ) → row p m (negsuc k) ≡ Wrong p
  pub above : (p : Place) (m : ℤ) (k : ℕ) → row p m (pos (suc k)) ≡ number (Some n) p (exact m (suc k))

module _ (old mid new : Build) (o : Op) (x y : CellId) (v w word : List Lit) (grows : Grows mid new)
    (all : Grows old new) (words : AreWordsOf old.arena x y v w) where
  at-words : (row : Place → ℤ → ℤ → Outcome) → IsOnNumbers old.arena.width o row → (a : List Bool) (p : Place) →
      row p (word_value v a) (word_value w a)
      ≡ table (Some old.arena.width) p o (decode old.arena a x ∷ decode old.arena a y ∷ [])
  at-words row is a p =
      let dx : Value = decode old.arena a x in
      let dy : Value = decode old.arena a y in
      sym (is p (dx ∷ dy ∷ [])
      ∙ numbers-row p (row p) dx dy (word_value v a) (word_value w a) (words.left a) (words.right a))

  -- a number that is Big where it is outside of the width
  pub exact-row : (l : Lit) (f : ℤ → ℤ → ℤ) (r : Cells) →
      IsOnNumbers old.arena.width o (λ p m n. number (Some old.arena.width) p (f m n)) →
      IsExact mid.formula (length v) word l (λ a. f (word_value v a) (word_value w a)) →
      ShowsAt new r (λ a p. number_unless l (Big p) word a) → HasRow old new o (x ∷ y ∷ []) r
  exact-row l f r is exact h =
      row-by old new o (x ∷ y ∷ []) r _ all h
      (λ a s p.
      let s1 = Satisfies-before mid new a grows s in
      let n : ℤ = f (word_value v a) (word_value w a) in
      big-row (length v) p (lit_value l a) (word_value word a) n (exact.outside.value a s1) (exact.value a s1)
      ∙ ap (λ (k : ℕ). number (Some k) p n) words.first.width
      ∙ at-words (λ p m n. number (Some old.arena.width) p (f m n)) is a p)

  -- a number that is Wrong where the divisor is not above 0
  pub divided-row : (l : Lit) (exact : ℤ → ℕ → ℤ) (row : Place → ℤ → ℤ → Outcome) (r : Cells) →
      IsDividing old.arena.width o exact row → IsWord mid.formula.vars old.arena.width word →
      HasValue mid.formula l (λ a. int_le (word_value w a) (pos 0)) →
      ((a : List Bool) → Satisfies a mid.formula → (n : ℕ) → word_value w a ≡ pos (suc n) →
      word_value word a ≡ exact (word_value v a) (suc n)) →
      ShowsAt new r (λ a p. number_unless l (Wrong p) word a) → HasRow old new o (x ∷ y ∷ []) r
  divided-row l exact row r d wide none quotient h =
      row-by old new o (x ∷ y ∷ []) r _ all h
      (λ a s p.
      let s1 = Satisfies-before mid new a grows s in
      let m : ℤ = word_value v a in
      let some : 0 < old.arena.width = (let e = old.built.narrow.0 in omega arith) in
      let fits = fits_own old.arena.width (values word a) some (values-length word a ∙ wide.width) in
      wrong-row old.arena.width p (lit_value l a) (word_value word a) (exact m) (row p m) fits (d.zeroth p m)
      (d.below p m) (d.above p m) (word_value w a) (none.value a s1) (quotient a s1) ∙ at-words row d.is a p)
