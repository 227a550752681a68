use Rattle.std.proofs.Common.{◌∙◌}
use Rattle.snowcat_types.specs.inner.Built.{means}
use Rattle.snowcat_types.proofs.FormSteps.{next_name}
use Rattle.snowcat_types.proofs.forms.typed_names.Goals as goal

pub loop-i-preserved : goal.loop-i-preserved
loop-i-preserved c =
    next_name c.args.names.now (means c.args.types.now) c.loop-i.i c.in_ok-name.name c.index-names-i.result c.loop-i.scope.items c.push.new.self.items c.in_ok-of.of
    c.loop-i-test.true (c.in_ok-name.ensures ∙ c.index-names-i.is) c.in_ok-push.ensures.items c.loop-i.invariant c.in_ok-of.ensures
