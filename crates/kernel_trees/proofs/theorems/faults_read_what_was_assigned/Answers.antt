use Rattle.std.proofs.Common.{[]}
use Rattle.kernel_trees.proofs.Reading.{met_with, same_fault, with_met}
use Rattle.kernel_trees.proofs.theorems.faults_read_what_was_assigned.Goals as goal

pub returns-clause-same : goal.returns-clause-same
returns-clause-same c = λ w m zs vss sc f given l s t s' t' r h. same_fault w m s t s' t' [] zs vss sc f given l r h

pub returns-clause-some : goal.returns-clause-some
returns-clause-some c = λ w s t. met_with w s t []

pub returns-clause-met : goal.returns-clause-met
returns-clause-met c = λ w s t. with_met w s t []
