use Rattle.std.specs.List.{All}
use Rattle.tla_values.specs.Sets.{Normal}
use Rattle.rewriting_tests.proofs.agreeing.state.Given as goal

abbrev pub invariant-loop-id : goal.invariant-loop-id
invariant-loop-id l = All Normal l.vals
