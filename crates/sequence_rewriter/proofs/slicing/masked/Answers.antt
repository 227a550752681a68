use Rattle.std.proofs.Common.{List, subst, arith}
use Rattle.std.proofs.lemmas.List.{take_all}
use Rattle.sat_formula.specs.declared.lit.Lit.{Lit}
use Rattle.sat_formula.proofs.Extension.{Grows-refl, Grows-trans}
use Rattle.word_blaster.proofs.Words.{WordBelow-get}
use Rattle.sequence_rewriter.specs.inner.Cuts.{IsMasked}
use Rattle.sequence_rewriter.proofs.Cutting.{masked-none, masked-more}
use Rattle.sequence_rewriter.proofs.slicing.masked.Goals as goal

pub loop-bit-init : goal.loop-bit-init
loop-bit-init c = record { grows = Grows-refl _; masked = masked-none _ c.args.l c.args.bits.now _ c.new-out.ensures.items }

pub and-requires-clause-x_below : goal.and-requires-clause-x_below
and-requires-clause-x_below c = let b = c.requires.below in let g = c.loop-bit.invariant.grows.vars in omega arith

pub and-requires-clause-y_below : goal.and-requires-clause-y_below
and-requires-clause-y_below c = WordBelow-get _ _ c.args.bits.now c.loop-bit.bit-index _ c.requires.bits c.loop-bit-test.true c.loop-bit.invariant.grows.vars

pub loop-bit-preserved : goal.loop-bit-preserved
loop-bit-preserved c =
    let i = c.loop-bit.invariant in
    record {
      grows = Grows-trans _ _ _ i.grows c.in_ok-both.ensures.grows;
      masked = masked-more _ _ c.args.l c.args.bits.now c.loop-bit.bit-index _ _ _ _ c.loop-bit-test.true i.masked c.in_ok-both.ensures.grows c.in_ok-both.ensures.value c.in_ok-push.ensures.items;
    }

pub returns-clause-masked : goal.returns-clause-masked
returns-clause-masked c =
    subst (λ (bits : List Lit). IsMasked c.loop-bit.formula c.args.l bits c.loop-bit.out.items) (take_all c.loop-bit.bit-index c.args.bits.now c.loop-bit-test.false) c.loop-bit.invariant.masked
