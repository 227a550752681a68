use Rattle.op_inliner.proofs.NoteSteps.{with_lambdas_node}
use Rattle.op_inliner.proofs.bodies.+with_lambdas.Goals as goal

pub with_lambdas-returns : goal.with_lambdas-returns
with_lambdas-returns t c = with_lambdas_node c.args.e c.in_ok-args.args c.in_ok-whole.whole c.in_ok-whole.ensures c.in_ok-args.ensures
