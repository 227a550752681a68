use Rattle.snowcat_types.proofs.NumberSteps.{unbroken_more}
use Rattle.snowcat_types.proofs.numbered.at_blank.Goals as goal

pub loop-i-preserved : goal.loop-i-preserved
loop-i-preserved c = unbroken_more c.args.text.now c.loop-i.i c.loop-i-test.true c.loop-i.invariant c.if-text-i-eq32.false
