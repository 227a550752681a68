use Rattle.std.proofs.Common.{map}
use Rattle.flat_modules.specs.inner.Items.{item_of}
use Rattle.flat_modules.proofs.LearningLemmas.{one_item}
use Rattle.flat_modules.proofs.items.Items.add_all.Goals as goal

pub loop-item-preserved : goal.loop-item-preserved
loop-item-preserved c = one_item (map item_of c.args.self.now) c.loop-item.yielded c.in-Some.item c.loop-item.invariant c.in_ok-add.ensures
