-- What `narrow` says, of another way to write its number.
use Rattle.std.proofs.Common.{◌≡◌, ℕ, zero, suc, Bool, false, not, List, refl, ◌∙◌, ap, arith, replicate, ◌<◌}
use Rattle.std.specs.Prelude.{ℤ}
use Rattle.std.proofs.lemmas.List.{length-replicate}
use Rattle.sat_formula.specs.declared.lit.Lit.{Lit}
use Rattle.sat_formula.specs.declared.cnf.Cnf.{Cnf}
use Rattle.sat_formula.specs.Lit.{lit_value}
use Rattle.sat_formula.specs.Formula.{Satisfies}
use Rattle.word_blaster.specs.Word.{bit, number, taken, values, fits_width, IsExact}
use Rattle.word_blaster.proofs.Words.{values-length}
use Rattle.word_blaster.proofs.Signs.{taken-zero}

pub IsExact-same : (f : Cnf) (m n : ℕ) (w : List Lit) (o : Lit) (p q : List Bool → ℤ) → m ≡ n → IsExact f m w o p → ((a : List Bool) → Satisfies a f → p a ≡ q a) → IsExact f n w o q
IsExact-same f m n w o p q k h e = record {
  below = h.below;
  width = h.width ∙ k;
  outside = record {
    below = h.outside.below;
    value = λ a s. h.outside.value a s ∙ ap (λ (i : ℕ). not (fits_width i (p a))) k ∙ ap (λ (z : ℤ). not (fits_width n z)) (e a s);
  };
  value = λ a s t. h.value a s t ∙ e a s;
}

pub number-zeros : (k : ℕ) (l : Lit) (a : List Bool) → lit_value l a ≡ false → number (values (replicate k l) a) ≡ 0
unfolding number
number-zeros zero l a e = refl
number-zeros (suc k) l a e =
    let b : bit (lit_value l a) ≡ 0 = ap bit e in
    omega (arith, b, number-zeros k l a e)

pub taken-zeros : (k : ℕ) (l : Lit) (a : List Bool) → 0 < k → lit_value l a ≡ false → taken (values (replicate k l) a) ≡ 0
taken-zeros k l a some e = taken-zero (values (replicate k l) a) (omega (arith, values-length (replicate k l) a, length-replicate k l)) (number-zeros k l a e)
