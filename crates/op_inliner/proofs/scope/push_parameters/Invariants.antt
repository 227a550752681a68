use Rattle.op_inliner.proofs.SumSteps.{Pushing}
use Rattle.op_inliner.proofs.scope.push_parameters.Given as goal

abbrev pub invariant-loop-name : goal.invariant-loop-name
invariant-loop-name l = Pushing l.names l.fn.first l.name-index l.next l.fn.scope.items l.scope.items
