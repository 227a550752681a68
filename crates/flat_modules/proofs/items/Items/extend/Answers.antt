use Rattle.std.proofs.Common.{map}
use Rattle.flat_modules.specs.inner.Items.{item_of}
use Rattle.flat_modules.proofs.LearningLemmas.{item_next}
use Rattle.flat_modules.proofs.items.Items.extend.Goals as goal

pub loop-item-preserved : goal.loop-item-preserved
loop-item-preserved c =
    item_next (map item_of c.args.self.now) c.as_slice-item-items.result.now c.loop-item.item-index c.item-item.result c.in_ok-share.field-0 c.loop-item-test.true c.item-item.is c.in_ok-share.ensures
    c.loop-item.invariant c.in_ok-add_shared.ensures
