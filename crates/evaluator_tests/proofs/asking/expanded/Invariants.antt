use Rattle.std.specs.List.{All}
use Rattle.std.specs.Prelude.{IsTrue}
use Rattle.tla_evaluator.specs.Trees.{is_expanded}
use Rattle.evaluator_tests.proofs.asking.expanded.Given as goal

abbrev pub invariant-loop-e : goal.invariant-loop-e
invariant-loop-e l = All (λ e. IsTrue (is_expanded e.1)) l.invs
