use Rattle.op_inliner.proofs.NamingSteps.{pairs_end}
use Rattle.op_inliner.proofs.naming.push_pairs.Goals as goal

pub returns-else-i-new_names : goal.returns-else-i-new_names
returns-else-i-new_names c = pairs_end c.args.names.now c.args.new_names.now c.loop-i.i c.loop-i.pairs.items _ c.if-i-new_names.false c.loop-i.invariant.is
