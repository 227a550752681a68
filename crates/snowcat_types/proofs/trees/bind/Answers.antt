use Rattle.std.proofs.Common.{◌∙◌, ap}
use Rattle.snowcat_rows.specs.FieldNames.{names_differ}
use Rattle.snowcat_types.proofs.NamedSteps.{scope_at_named, scope_more}
use Rattle.snowcat_types.proofs.TreeSteps.{names_next}
use Rattle.snowcat_types.proofs.trees.bind.Goals as goal

pub loop-name-preserved : goal.loop-name-preserved
loop-name-preserved c = record {
  bound =
      names_next c.args.bound.now.items c.loop-name.bound.items c.push.new.self.items c.args.names.now c.loop-name.name-index c.name-item.result
      c.in_ok-name.name c.in_ok-of.of c.loop-name-test.true c.name-item.is c.in_ok-name.ensures c.in_ok-of.ensures c.in_ok-push.ensures.items
      c.loop-name.invariant.bound;
  named = λ h k.
      scope_more c.loop-name.bound.items c.push.new.self.items c.in_ok-name.name c.in_ok-of.of c.in_ok-push.ensures.items (c.loop-name.invariant.named h k)
      (ap names_differ c.in_ok-of.ensures
      ∙ scope_at_named c.args.names.now c.loop-name.name-index c.name-item.result c.loop-name-test.true c.name-item.is k);
}
