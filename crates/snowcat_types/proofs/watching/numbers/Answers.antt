use Rattle.std.proofs.Common.{◌-◌, refl}
use Rattle.snowcat_types.proofs.Watched.{from_more}
use Rattle.snowcat_types.proofs.watching.numbers.Goals as goal

pub loop-i-preserved : goal.loop-i-preserved
loop-i-preserved c =
    from_more c.args.count c.loop-i.i (c.args.count - 1 - c.loop-i.i) c.loop-i.all.items c.push.new.self.items c.loop-i-test.true refl
    c.in_ok-push.ensures.items c.loop-i.invariant
