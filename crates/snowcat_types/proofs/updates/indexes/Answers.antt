use Rattle.std.proofs.Common.{◌∙◌, ap}
use Rattle.snowcat_types.specs.inner.Built.{unknown_from}
use Rattle.snowcat_types.proofs.FormSteps.{next_index}
use Rattle.snowcat_types.proofs.updates.indexes.Goals as goal

pub loop-j-preserved : goal.loop-j-preserved
loop-j-preserved c =
    next_index c.args.first c.args.i c.loop-j.j c.loop-j.types.items c.push.new.self.items c.in_ok-next.next c.in_ok-push.ensures.items c.loop-j.invariant
    (c.in_ok-next.ensures ∙ ap (unknown_from c.args.first) c.in_ok-k.ensures)
