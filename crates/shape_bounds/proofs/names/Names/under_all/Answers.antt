use Rattle.shape_bounds.proofs.ExtentsUnder.{under_next}
use Rattle.shape_bounds.proofs.names.Names.under_all.Goals as goal

pub loop-i-preserved : goal.loop-i-preserved
loop-i-preserved c =
    under_next c.args.self.now c.loop-i.self c.under_at.new.self c.args.k.now c.args.stacks.now c.loop-i.i c.index-stacks-i.result c.loop-i.all.items
    c.in_ok-under.under.items c.append.new.self.items c.loop-i.invariant c.loop-i-test.true c.index-stacks-i.is c.in_ok-under.ensures c.in_ok-append.ensures.items
