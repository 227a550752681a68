use Rattle.kernel_shapes.proofs.Refusals.{each_refuses, each_same_refusal}
use Rattle.kernel_shapes.proofs.theorems.refusals_depend_on_the_numbers_alone.Goals as goal

pub returns-clause-limits : goal.returns-clause-limits
returns-clause-limits c = each_refuses

pub returns-clause-order : goal.returns-clause-order
returns-clause-order c = each_same_refusal
