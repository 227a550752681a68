use Rattle.std.proofs.Common.{◌∙◌, ◌+◌, ap, get_or, refl}
use Rattle.snowcat_types.proofs.WaitSteps.{next_update_waits}
use Rattle.snowcat_types.proofs.undecided.except_waits.Goals as goal

pub loop-n-preserved : goal.loop-n-preserved
loop-n-preserved c =
    next_update_waits c.args.first c.loop-n.i c.in_ok-i.i (get_or c.args.counts.now c.loop-n.n-index 0) c.loop-n.n-index c.loop-n.start c.in_ok-start.start 0
    c.args.counts.now c.args.indexes.now c.part_of.result.now c.loop-n.waits.items c.push_indexes.new.waits.items c.loop-n-test.true refl c.in_ok-i.ensures
    (c.in_ok-start.ensures ∙ ap (λ z. c.loop-n.start + z) c.in_ok-plus.ensures) c.part_of.ensures c.in_ok-push_indexes.ensures
    ∙ c.loop-n.invariant
