use Rattle.std.proofs.Common.{◌≡◌, ◌<◌, ℕ, not, ap, subst, sym, ◌∙◌, arith}
use Rattle.sat_formula.specs.declared.lit.Lit.{Lit}
use Rattle.word_blaster.proofs.Words.{turned-value}
use Rattle.sequence_rewriter.specs.inner.Cuts.{IsLonger}
use Rattle.sequence_rewriter.proofs.Cutting.{longer-none, longer-more}
use Rattle.sequence_rewriter.proofs.slicing.longer.Goals as goal

pub loop-i-init : goal.loop-i-init
loop-i-init c = record { from = omega arith; longer = longer-none c.args.formula.now c.args.bits.now _ c.requires.bits c.in_ok-out.ensures.items }

pub loop-i-preserved : goal.loop-i-preserved
loop-i-preserved c = record {
  from = omega (arith, c.loop-i.invariant.from);
  longer = longer-more _ _ _ _ c.negated-none.result c.loop-i._i (subst (λ (l : Lit). l.var < c.args.formula.now.vars) (sym c.negated-none.ensures) c.top.ensures.below)
      (λ a s. turned-value c.top.result c.negated-none.result a c.negated-none.ensures ∙ ap not (c.top.ensures.forced a s)) c.loop-i.invariant.longer c.in_ok-push.ensures.items;
}

pub returns : goal.returns
returns c =
    let i : c.loop-i._i ≡ c.args.n = omega (arith, c.loop-i-test.false, c.loop-i.auto._i-end, c.requires.within) in
    subst (λ (n : ℕ). IsLonger c.args.formula.now c.args.bits.now n c.loop-i.out.items) i c.loop-i.invariant.longer
