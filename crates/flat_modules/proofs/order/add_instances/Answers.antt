use Rattle.flat_modules.proofs.Mentioning.{mentioned_next}
use Rattle.flat_modules.proofs.order.add_instances.Goals as goal

pub loop-unit-preserved : goal.loop-unit-preserved
loop-unit-preserved c =
    mentioned_next c.args.out.now.items c.args.units.now c.loop-unit.unit-index c.unit-item.result c.loop-unit-test.true c.unit-item.is
    c.loop-unit.invariant c.in_ok-add_instance.ensures
