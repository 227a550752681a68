use Rattle.std.proofs.Common.{◌≡◌}
use Rattle.snowcat_types.specs.inner.Gathered.{AllNamedIn, requirements_of}
use Rattle.snowcat_types.proofs.NamedSteps.{PairsNamed}
use Rattle.snowcat_types.proofs.TreeSteps.{asked_of}
use Rattle.snowcat_types.proofs.trees.equals.Given as goal

abbrev pub invariant-loop-operand : goal.invariant-loop-operand
invariant-loop-operand l = record {
  asked : requirements_of l.asked.items ≡ asked_of l.yielded;
  named : PairsNamed l.yielded → AllNamedIn l.asked.items;
}
