-- Literals and hints as words.
use Rattle.std.proofs.Common.{◌≡◌, ℕ, ◌+◌, ◌<◌, ◌^◌, Bool, true, false, List, [], ◌∷◌, ◌++◌, get_or, refl, sym, ◌∙◌, ap, arith}
use Rattle.std.specs.Prelude.{decimal, codes, if◌then◌else◌}
use Rattle.sat_formula.specs.declared.lit.Lit.{Lit}
use Rattle.sat_formula.specs.Lit.{IsBelow}
use Rattle.refutation_checker.specs.Certificate.{IsHint, lit_text}
use Rattle.refutation_checker.specs.inner.Reading.{Lacks, SpellsNone}
use Rattle.refutation_checker.proofs.Splits.{cut_none}
use Rattle.refutation_checker.proofs.Closed.{AreWords}
use Rattle.refutation_checker.proofs.Numbers.{Lacks-decimal, decimal_same, decimal_zero}

-- no number begins with a minus sign
no_minus : (v : ℕ) (rest : List ℕ) → v < 2 ^ 63 → decimal v ≡ 45 ∷ rest → ⊥
no_minus v rest small e = cut_none 45 [] (decimal v) rest (Lacks-decimal 45 v (omega arith) small) e

pub none_negated : (word digits : List ℕ) (vars : ℕ) → vars < 2 ^ 31 → word ≡ codes "-" ++ digits → SpellsNone (λ v. decimal (v + 1)) (λ v. v < vars) digits → SpellsNone lit_text (IsBelow vars) word
none_negated word digits vars h e none l below w =
    let by : (neg : Bool) (v : ℕ) → v < vars → word ≡ (if neg then codes "-" else []) ++ decimal (v + 1) → ⊥ =
    λ neg. elim neg as (λ b. (v : ℕ) → v < vars → word ≡ (if b then codes "-" else []) ++ decimal (v + 1) → ⊥) [
      | true ↦ (λ v lt t. none v lt cc)
      | false ↦ (λ v lt t. no_minus (v + 1) digits (omega arith) (sym t ∙ e))
    ] in
    by l.neg l.var below w

pub none_plain : (word : List ℕ) (vars : ℕ) → ((rest : List ℕ) → word ≡ codes "-" ++ rest → ⊥) → SpellsNone (λ v. decimal (v + 1)) (λ v. v < vars) word → SpellsNone lit_text (IsBelow vars) word
none_plain word vars apart none l below w =
    let by : (neg : Bool) (v : ℕ) → v < vars → word ≡ (if neg then codes "-" else []) ++ decimal (v + 1) → ⊥ =
    λ neg. elim neg as (λ b. (v : ℕ) → v < vars → word ≡ (if b then codes "-" else []) ++ decimal (v + 1) → ⊥) [
      | true ↦ (λ v lt t. apart (decimal (v + 1)) t)
      | false ↦ (λ v lt t. none v lt t)
    ] in
    by l.neg l.var below w

signed : Bool → ℕ → List ℕ
signed neg v = (if neg then codes "-" else []) ++ decimal (v + 1)

lit_lacks : (b : ℕ) (neg : Bool) (v : ℕ) → b < 45 → v < 2 ^ 31 → Lacks b (signed neg v)
unfolding signed
lit_lacks b true v low small = (λ e. omega arith, Lacks-decimal b (v + 1) (omega arith) (omega arith))
lit_lacks b false v low small = Lacks-decimal b (v + 1) (omega arith) (omega arith)

minus_apart : (rest : List ℕ) → 45 ∷ rest ≡ 48 ∷ [] → ⊥
minus_apart rest e = omega (arith, ap (λ t. get_or t 0 0) e)

lit_apart : (neg : Bool) (v : ℕ) → v < 2 ^ 31 → signed neg v ≡ 48 ∷ [] → ⊥
unfolding signed
lit_apart true v small e = minus_apart (decimal (v + 1)) e
lit_apart false v small e = omega (arith, decimal_same (v + 1) 0 (omega arith) (omega arith) (e ∙ sym decimal_zero))

lit_same : (neg gen : Bool) (v w : ℕ) → v < 2 ^ 31 → w < 2 ^ 31 → signed neg v ≡ signed gen w → (neg ≡ gen) × (v ≡ w)
unfolding signed
lit_same true true v w p q e = (refl, omega (arith, decimal_same (v + 1) (w + 1) (omega arith) (omega arith) cc))
lit_same true false v w p q e = absurd (no_minus (w + 1) (decimal (v + 1)) (omega arith) (sym e))
lit_same false true v w p q e = absurd (no_minus (v + 1) (decimal (w + 1)) (omega arith) e)
lit_same false false v w p q e = (refl, omega (arith, decimal_same (v + 1) (w + 1) (omega arith) (omega arith) e))

pub Lacks-lit_text : (b vars : ℕ) → b < 45 → vars < 2 ^ 31 → (l : Lit) → IsBelow vars l → Lacks b (lit_text l)
unfolding signed
Lacks-lit_text b vars low h l below = lit_lacks b l.neg l.var low (omega arith)

pub lits_are_words : (vars : ℕ) → vars < 2 ^ 31 → AreWords lit_text (IsBelow vars)
unfolding signed
lits_are_words vars h = record {
  lacks = λ l below. lit_lacks 32 l.neg l.var (omega arith) (omega arith);
  apart = λ l below e. lit_apart l.neg l.var (omega arith) e;
  same = λ l m p q e.
      let both : (l.neg ≡ m.neg) × (l.var ≡ m.var) = lit_same l.neg m.neg l.var m.var (omega arith) (omega arith) e in
      ap (λ (v : ℕ). record { var = v; neg = l.neg }) both.1 ∙ ap (λ (n : Bool). record { var = m.var; neg = n }) both.0;
}

pub hints_are_words : AreWords decimal IsHint
hints_are_words = record {
  lacks = λ h fits. Lacks-decimal 32 h (omega arith) fits.1;
  apart = λ h fits e. omega (arith, fits.0, decimal_same h 0 fits.1 (omega arith) (e ∙ sym decimal_zero));
  same = λ h k p q e. decimal_same h k p.1 q.1 e;
}
