use Rattle.std.proofs.Common.{ℕ, ◌+◌, ◌/◌, ◌<◌, Bool, false, not, List, drop, ap, arith, subst, sym, ◌∙◌}
use borrow.Author.Tests.{eq-eqb, ne_eqb}
use Rattle.std.specs.List.{list_all}
use Rattle.std.specs.Prelude.{◌&&◌, ◌==◌}
use Rattle.sat_formula.specs.declared.lit.Lit.{Lit}
use Rattle.sat_formula.specs.Lit.{lit_value}
use Rattle.word_blaster.specs.Word.{WordBelow, number, values}
use Rattle.word_blaster.proofs.Words.{WordBelow-push, WordBelow-get, turned-value}
use Rattle.word_blaster.proofs.CountLemmas.{and-false, and-true, equal_end, equal_more}
use Rattle.word_blaster.proofs.counts.equals_number.Goals as goal

pub loop-bit-preserved : goal.loop-bit-preserved
loop-bit-preserved c =
    let d : Lit = record { var = 0; neg = false } in
    let t = c.as_set.result in
    record {
      below = subst (λ (w : List Lit). WordBelow c.args.f.now.vars w) (sym c.in_ok-push.ensures.items)
          (WordBelow-push _ _ t c.loop-bit.invariant.below (subst (λ (v : ℕ). v < c.args.f.now.vars) (sym c.as_set.ensures.var) (WordBelow-get _ _ c.args.bits.now _ _ c.requires.x_below (omega arith) (omega arith))));
      value = λ a.
          ap (λ (w : List Lit). list_all (λ x. lit_value x a) w && (number (values (drop (c.loop-bit.bit-index + 1) c.args.bits.now) a) == c.loop-bit.rest / 2)) c.in_ok-push.ensures.items
          ∙ equal_more c.args.bits.now c.loop-bit.tests.items d t a c.loop-bit.bit-index c.loop-bit.rest c.args.n (omega arith) (c.as_set.ensures.value a) (c.loop-bit.invariant.value a);
    }

pub returns-then-rest-ne0-clause-value : goal.returns-then-rest-ne0-clause-value
returns-then-rest-ne0-clause-value c = record {
  below = subst (λ (l : Lit). l.var < c.args.f.now.vars) (sym c.negated.ensures) c.top.ensures.below;
  value = λ a s.
      turned-value c.top.result c.negated.result a c.negated.ensures ∙ ap not (c.top.ensures.forced a s)
      ∙ sym (and-false (list_all (λ x. lit_value x a) c.loop-bit.tests.items))
      ∙ ap (λ (b : Bool). list_all (λ x. lit_value x a) c.loop-bit.tests.items && b) (sym (ne_eqb 0 c.loop-bit.rest (λ e. c.if-rest-ne0.true (sym e))))
      ∙ equal_end c.args.bits.now c.loop-bit.tests.items a c.loop-bit.bit-index c.loop-bit.rest c.args.n (omega arith) (c.loop-bit.invariant.value a);
}

pub and_all-requires : goal.and_all-requires
unfolding WordBelow
and_all-requires c = subst (λ (w : List Lit). WordBelow c.args.f.now.vars w) (sym c.as_slice.ensures.value) c.loop-bit.invariant.below

pub returns-clause-value : goal.returns-clause-value
returns-clause-value c = record {
  below = c.in_ok-all.ensures.value.below;
  value = λ a s.
      c.in_ok-all.ensures.value.value a s ∙ ap (λ (w : List Lit). list_all (λ x. lit_value x a) w) c.as_slice.ensures.value
      ∙ sym (and-true (list_all (λ x. lit_value x a) c.loop-bit.tests.items))
      ∙ ap (λ (b : Bool). list_all (λ x. lit_value x a) c.loop-bit.tests.items && b) (sym (eq-eqb 0 c.loop-bit.rest (sym c.if-rest-ne0.false)))
      ∙ equal_end c.args.bits.now c.loop-bit.tests.items a c.loop-bit.bit-index c.loop-bit.rest c.args.n (omega arith) (c.loop-bit.invariant.value a);
}
