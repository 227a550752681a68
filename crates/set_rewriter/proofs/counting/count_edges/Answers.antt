use Rattle.std.proofs.Common.{◌<◌, length, arith}
use Rattle.sat_formula.proofs.Extension.{Grows-refl, Grows-trans}
use Rattle.word_blaster.proofs.Words.{WordBelow-later}
use Rattle.cell_merge.proofs.Edges.{negated-value}
use Rattle.set_rewriter.proofs.Sizes.{bits-nothing, front-edges, counts-most, counts-more}
use Rattle.set_rewriter.proofs.counting.count_edges.Goals as goal

pub loop-i-init : goal.loop-i-init
loop-i-init c = record { grows = Grows-refl _; counts = bits-nothing _ _ _ c.new-bits.ensures.items }

pub stands_among-requires-clause-edges : goal.stands_among-requires-clause-edges
stands_among-requires-clause-edges c =
    let lt : c.loop-i.i < length c.args.edges.now = omega arith in
    front-edges _ _ _ c.args.edges.now c.loop-i.i _ c.requires.edges c.loop-i.invariant.grows.vars lt

pub add_bit-requires-clause-x_below : goal.add_bit-requires-clause-x_below
add_bit-requires-clause-x_below c =
    let grows = Grows-trans _ _ _ c.in_ok-before.ensures.grows c.in_ok-first.ensures.grows in
    rw c.as_slice.ensures.value (WordBelow-later _ _ _ c.loop-i.invariant.counts.below grows.vars)

pub add_bit-requires-clause-most : goal.add_bit-requires-clause-most
add_bit-requires-clause-most c =
    let lt : c.loop-i.i < length c.args.edges.now = omega arith in
    rw c.as_slice.ensures.value (counts-most c.args.arena.now _ _ _ c.args.edges.now c.loop-i.i _ c.loop-i.bits.items c.in_ok-before.before c.negated.result _ lt c.loop-i.invariant.counts
    c.in_ok-before.ensures.grows c.in_ok-first.ensures.grows c.in_ok-before.ensures.value (λ a. negated-value _ _ a c.negated.ensures) c.in_ok-first.ensures.value)

pub loop-i-preserved : goal.loop-i-preserved
loop-i-preserved c =
    let lt : c.loop-i.i < length c.args.edges.now = omega arith in
    record {
      grows = Grows-trans _ _ _ c.loop-i.invariant.grows (Grows-trans _ _ _ c.in_ok-before.ensures.grows (Grows-trans _ _ _ c.in_ok-first.ensures.grows c.in_ok-bits.ensures.grows));
      counts = counts-more c.args.arena.now _ _ _ c.args.edges.now c.loop-i.i _ c.loop-i.bits.items c.in_ok-before.before c.negated.result _ lt c.loop-i.invariant.counts
          c.in_ok-before.ensures.grows c.in_ok-first.ensures.grows c.in_ok-before.ensures.value (λ a. negated-value _ _ a c.negated.ensures) c.in_ok-first.ensures.value _ _
          c.in_ok-bits.ensures.grows c.in_ok-bits.ensures.below (rw c.as_slice.ensures.value at c.in_ok-bits.ensures.value);
    }
