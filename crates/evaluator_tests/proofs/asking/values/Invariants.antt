use Rattle.std.specs.List.{All}
use Rattle.tla_values.specs.Sets.{Normal}
use Rattle.evaluator_tests.proofs.asking.values.Given as goal

abbrev pub invariant-loop-e : goal.invariant-loop-e
invariant-loop-e l = All Normal l.vals.items
