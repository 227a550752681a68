use Rattle.form_cells.proofs.RecordLemmas.{fields-all, fields-none, fields-turn, has-field}
use Rattle.form_cells.proofs.parts.fields_of.Goals as goal

pub loop-i-init : goal.loop-i-init
loop-i-init c = record { fields = fields-none c.args.b.now c.args.r c.args.names.now _ c.new-cells.ensures.items }

pub field-cell-requires : goal.field-cell-requires
field-cell-requires c = has-field _ c.args.r c.args.names.now c.loop-i.i _ c.requires c.loop-i-test.true c.index-names-i.is

pub loop-i-preserved : goal.loop-i-preserved
loop-i-preserved c = record {
  fields = fields-turn c.args.b.now c.args.r c.args.names.now c.loop-i.i _ _ _ c.field-cell.result c.loop-i.invariant.fields c.loop-i-test.true c.index-names-i.is c.field-cell.ensures c.in_ok-push.ensures.items;
}

pub returns : goal.returns
returns c = fields-all c.args.b.now c.args.r c.args.names.now _ _ c.loop-i-test.false c.loop-i.invariant.fields
