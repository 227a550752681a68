use Rattle.std.proofs.Common.{ap, ◌∙◌}
use Rattle.snowcat_rows.specs.Codes.{named}
use Rattle.snowcat_rows.specs.FieldNames.{names_differ}
use Rattle.snowcat_rows.specs.inner.Naming.{fields_named}
use Rattle.snowcat_rows.proofs.Moves.{zipped_start}
use Rattle.snowcat_rows.proofs.Naming.{last_of}
use Rattle.snowcat_rows.proofs.building.with_names.Goals as goal

pub loop-t-init : goal.loop-t-init
loop-t-init c = (ap named c.new-fields.ensures.items ∙ zipped_start c.args.names.now, λ h. ap fields_named c.new-fields.ensures.items)

pub loop-t-preserved : goal.loop-t-preserved
loop-t-preserved c = (
  c.in_ok-push_field.ensures.mean c.loop-t.yielded c.loop-t.invariant.0,
  λ h. (let k = last_of names_differ c.loop-t.yielded _ h in c.in_ok-push_field.ensures.named k.1 (c.loop-t.invariant.1 k.0)),
)
