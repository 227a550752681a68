use Rattle.std.proofs.Common.{take_all}
use Rattle.outcome_cells.proofs.Truths.{bits-none, bits-step}
use Rattle.outcome_cells.proofs.bits.bits_of.Goals as goal

pub loop-x-init : goal.loop-x-init
loop-x-init c = record { bits = rw c.new-bits.ensures.items (bits-none c.args.arena.now) }

pub loop-x-preserved : goal.loop-x-preserved
loop-x-preserved c = record {
  bits = let bit = c.bit_of.ensures in
      rw c.in_ok-push.ensures.items
      (bits-step c.args.arena.now c.args.xs.now c.loop-x.x-index _ _ _ c.loop-x-test.true c.loop-x.invariant.bits bit.below bit.value);
}

pub returns : goal.returns
returns c = rw (take_all _ _ c.loop-x-test.false) at c.loop-x.invariant.bits
