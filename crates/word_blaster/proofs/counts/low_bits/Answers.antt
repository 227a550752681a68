use Rattle.std.proofs.Common.{◌≡◌, ℕ, ◌-◌, ◌^◌, ◌<◌, ◌≤◌, List, length, take, ap, arith, subst, sym, ◌∙◌, inl, inr}
use Rattle.std.specs.Prelude.{◌⊎◌}
use Rattle.std.proofs.Math.Nat.{eq-or-lt_of_le}
use Rattle.std.proofs.lemmas.List.{length-take-le}
use Rattle.sat_formula.specs.declared.lit.Lit.{Lit}
use Rattle.word_blaster.specs.Word.{WordBelow, number, values}
use Rattle.word_blaster.proofs.Words.{WordBelow-take}
use Rattle.word_blaster.proofs.CountLemmas.{low-word}
use Rattle.word_blaster.proofs.counts.low_bits.Goals as goal

pub returns-clause-below : goal.returns-clause-below
returns-clause-below c = λ v h.
    subst (λ (w : List Lit). WordBelow v w) (sym (c.in_ok-low.ensures.items ∙ ap (take c.bits_for-k.result) c.lits-lits.ensures)) (WordBelow-take v c.bits_for-k.result c.args.word.now h)

pub returns-clause-few : goal.returns-clause-few
returns-clause-few c =
    let k = c.bits_for-k.result in
    let m : length c.in_ok-low.low.items ≡ k = ap length (c.in_ok-low.ensures.items ∙ ap (take k) c.lits-lits.ensures)
    ∙ length-take-le k c.args.word.now (omega (arith, ap length c.lits-lits.ensures)) in
    record {
      least = λ some. subst (λ (n : ℕ). 2 ^ (n - 1) ≤ c.args.most) (sym m) (c.bits_for-k.ensures.least (omega arith));
      short = omega (arith, m, ap length c.lits-lits.ensures);
    }

pub returns-clause-value : goal.returns-clause-value
returns-clause-value c = λ a n e le.
    let k = c.bits_for-k.result in
    let m = ap length c.lits-lits.ensures in
    ap (λ (w : List Lit). number (values w a)) (c.in_ok-low.ensures.items ∙ ap (take k) c.lits-lits.ensures)
    ∙ low-word c.args.word.now a k n (omega arith) c.requires.some e (by k (length c.args.word.now - 1) n c.args.most (omega arith) (λ lt. c.bits_for-k.ensures.enough (omega arith)) le)
  where
    by : (k r n m : ℕ) → k ≤ r → (k < r → m < 2 ^ k) → n ≤ m → (k ≡ r) ⊎ (n < 2 ^ k)
    by k r n m h g le = elim (eq-or-lt_of_le h) [ inl e ↦ inl e | inr lt ↦ inr (let l = g lt in omega arith) ]
