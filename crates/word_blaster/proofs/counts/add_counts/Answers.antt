use Rattle.std.proofs.Common.{◌≡◌, ℕ, ◌+◌, not, List, length, ap, ◌∙◌, sym, subst, arith}
use Rattle.std.proofs.lemmas.List.{length_push}
use Rattle.sat_formula.specs.declared.lit.Lit.{Lit}
use Rattle.sat_formula.specs.Lit.{lit_value}
use Rattle.sat_formula.proofs.Extension.{Satisfies-older}
use Rattle.word_blaster.specs.Word.{bit, number, values, WordBelow}
use Rattle.word_blaster.proofs.Words.{WordBelow-push, number-values-push, turned-value}
use Rattle.word_blaster.proofs.CountLemmas.{padded_words}
use Rattle.word_blaster.proofs.counts.add_counts.Goals as goal

pub ripple-requires-clause-words : goal.ripple-requires-clause-words
ripple-requires-clause-words c =
    padded_words c.args.f.now c.args.x.now c.args.y.now _ _ _ _ c.requires.x_below c.requires.y_below c.in_ok-left.ensures c.in_ok-right.ensures c.as_slice.ensures.value c.as_slice-2.ensures.value

pub returns-clause-word : goal.returns-clause-word
returns-clause-word c = record {
  below = subst (λ (w : List Lit). WordBelow c.ripple.new.f.vars w) (sym c.in_ok-push.ensures.items) (WordBelow-push _ _ _ c.in_ok-sum.ensures.word.below c.in_ok-sum.ensures.carry_out);
  width = ap length c.in_ok-push.ensures.items ∙ length_push c.in_ok-sum.sum.items c.in_ok-sum.carry
      ∙ ap (λ (n : ℕ). n + 1) (c.in_ok-sum.ensures.word.width ∙ ap length c.as_slice.ensures.value ∙ c.in_ok-left.ensures.len);
}

pub returns-clause-value : goal.returns-clause-value
returns-clause-value c = λ a s.
    let old = Satisfies-older _ _ a c.in_ok-sum.ensures.grows s in
    let zero : bit (lit_value c.negated-zero.result a) ≡ 0 = ap bit (turned-value c.top.result c.negated-zero.result a c.negated-zero.ensures ∙ ap not (c.top.ensures.forced a old)) in
    let left = ap (λ (w : List Lit). number (values w a)) c.as_slice.ensures.value ∙ c.in_ok-left.ensures.value a old in
    let right = ap (λ (w : List Lit). number (values w a)) c.as_slice-2.ensures.value ∙ c.in_ok-right.ensures.value a old in
    ap (λ (w : List Lit). number (values w a)) c.in_ok-push.ensures.items
    ∙ number-values-push c.in_ok-sum.sum.items c.in_ok-sum.carry a (length c.as_slice.result.now) c.in_ok-sum.ensures.word.width
    ∙ omega (arith, c.in_ok-sum.ensures.value a s, zero, left, right)
