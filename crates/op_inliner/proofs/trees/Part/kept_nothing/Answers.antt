use Rattle.op_inliner.proofs.BuildSteps.{deep_any}
use Rattle.op_inliner.proofs.trees.Part.kept_nothing.Goals as goal

pub returns-then-left-eq0 : goal.returns-then-left-eq0
returns-then-left-eq0 c = deep_any c.args.left _ c.if-left-eq0.true
