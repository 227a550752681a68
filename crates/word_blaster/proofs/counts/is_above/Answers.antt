use Rattle.std.proofs.Common.{◌<◌, true, false, not, ap, arith, subst, sym, ◌∙◌}
use borrow.Author.Tests.{eq-eqb, ne_eqb}
use Rattle.sat_formula.specs.declared.lit.Lit.{Lit}
use Rattle.sat_formula.specs.Lit.{lit_value}
use Rattle.sat_formula.proofs.Extension.{Grows-trans, Satisfies-older}
use Rattle.word_blaster.proofs.Words.{WordBelow-get, turned-value}
use Rattle.word_blaster.proofs.CountLemmas.{above_end, above_more}
use Rattle.word_blaster.proofs.counts.is_above.Goals as goal

pub greater-requires-clause-x_below : goal.greater-requires-clause-x_below
greater-requires-clause-x_below c = WordBelow-get c.args.f.now.vars _ c.args.bits.now _ _ c.requires.x_below (omega arith) c.loop-bit.invariant.grows.vars

pub loop-bit-preserved : goal.loop-bit-preserved
loop-bit-preserved c = record {
  grows = Grows-trans _ _ _ c.loop-bit.invariant.grows c.in_ok-above.ensures.grows;
  below = c.in_ok-above.ensures.value.below;
  value = λ a s.
      above_more c.args.bits.now (record { var = 0; neg = false }) a c.loop-bit.bit-index c.loop-bit.rest _ _ _ (omega arith) (c.in_ok-above.ensures.value.value a s)
      (c.loop-bit.invariant.value a (Satisfies-older _ _ a c.in_ok-above.ensures.grows s));
}

pub returns-then-rest-ne0-clause-value : goal.returns-then-rest-ne0-clause-value
returns-then-rest-ne0-clause-value c = record {
  below = subst (λ (l : Lit). l.var < c.loop-bit.f.vars) (sym c.negated.ensures) c.top-then-rest-ne0.ensures.below;
  value = λ a s.
      turned-value c.top-then-rest-ne0.result c.negated.result a c.negated.ensures ∙ ap not (c.top-then-rest-ne0.ensures.forced a s)
      ∙ above_end c.args.bits.now a c.loop-bit.bit-index c.loop-bit.rest (lit_value c.loop-bit.above a) false _ (omega arith) (ne_eqb c.loop-bit.rest 0 c.if-rest-ne0.true) (c.loop-bit.invariant.value a s);
}

pub returns-clause-value : goal.returns-clause-value
returns-clause-value c = record {
  below = c.loop-bit.invariant.below;
  value = λ a s. above_end c.args.bits.now a c.loop-bit.bit-index c.loop-bit.rest (lit_value c.loop-bit.above a) true _ (omega arith) (eq-eqb c.loop-bit.rest 0 c.if-rest-ne0.false) (c.loop-bit.invariant.value a s);
}
