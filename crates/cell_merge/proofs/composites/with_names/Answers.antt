use Rattle.cell_merge.proofs.Shapes.{named-more}
use Rattle.cell_merge.proofs.composites.with_names.Goals as goal

pub loop-i-preserved : goal.loop-i-preserved
loop-i-preserved c =
    named-more c.args.fields.now c.args.parts.now c.loop-i.i c.index-fields-i.result _ _ _ _ c.loop-i-test.true c.requires c.in_ok-name.ensures c.loop-i.invariant c.in_ok-push.ensures.items
