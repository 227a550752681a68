use Rattle.std.proofs.Common.{rules, ◌≡◌, ◌+◌, ◌∙◌, ap}
use Rattle.snowcat_types.specs.inner.Built.{unknown_from}
use Rattle.snowcat_types.proofs.FormSteps.{next_unknown}
use Rattle.snowcat_types.proofs.forms.unknowns.Goals as goal

pub loop-i-preserved : goal.loop-i-preserved
loop-i-preserved c =
    let k : c.in-Some.k ≡ c.args.start + c.loop-i.i = search rules in
    next_unknown c.args.first c.args.start c.loop-i.i c.loop-i.types.items c.push.new.self.items c.in_ok-next.next c.in_ok-push.ensures.items c.loop-i.invariant
    (c.in_ok-next.ensures ∙ ap (unknown_from c.args.first) k)
