use Rattle.op_inliner.proofs.SpotLemmas.{root_reached}
use Rattle.op_inliner.proofs.spots.root.Goals as goal

pub returns-in-None : goal.returns-in-None
returns-in-None c =
    root_reached c.args.frames.now.items c.loop.frames.items c.step.new.frames.items c.args.spot c.loop.spot c.in_ok-next.field-0 c.loop.invariant c.in_ok-next.ensures c.in-None.is
