use Rattle.std.proofs.Common.{refl}
use Rattle.op_inliner.proofs.SpotLemmas.{single_is, under_step}
use Rattle.op_inliner.proofs.spots.below_notes.Goals as goal

pub root-requires : goal.root-requires
root-requires c = record { scope = c.loop.invariant.reaches.within }

pub loop-preserved : goal.loop-preserved
loop-preserved c =
    under_step c.args.frames.now.items c.loop.frames.items c.root.new.frames.items c.args.spot c.loop.spot _ c.in_ok-spot-in-Noted-len1.spot c.in-Noted-len1.field-0-0 c.operand-item.result c.as_slice.result.now
    c.loop.invariant c.in-Noted-len1.is-0 c.as_slice.ensures
    (single_is c.as_slice.result.now c.operand-item.result c.in-Noted-len1.len_at_least c.in-Noted-len1.len_below c.operand-item.is) refl refl refl refl c.in_ok-spot-in-Noted-len1.ensures
