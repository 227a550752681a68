use Rattle.std.proofs.Common.{subst}
use Rattle.flat_modules.specs.inner.Flat.{Adds}
use Rattle.flat_modules.specs.inner.Items.{item_of}
use Rattle.flat_modules.proofs.FlatLemmas.{split_step}
use Rattle.flat_modules.proofs.flattening.split.Goals as goal

pub loop-item-preserved : goal.loop-item-preserved
loop-item-preserved c =
    split_step c.loop-item.yielded c.in-Some.item c.loop-item.invariant (subst (λ i. Adds c.loop-item.flat c.add.new.self (item_of i)) c.in_ok-owned.ensures c.in_ok-add.ensures)
