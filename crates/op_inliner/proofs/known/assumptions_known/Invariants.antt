use Rattle.std.proofs.Common.{◌≡◌, drop}
use Rattle.std.specs.List.{list_all}
use Rattle.tla_meaning.specs.Folds.{with_lambdas}
use Rattle.op_inliner.specs.Known.{uses_known}
use Rattle.op_inliner.proofs.known.assumptions_known.Given as goal

abbrev pub invariant-loop-e : goal.invariant-loop-e
invariant-loop-e l = record {
  scope : l.scope.items ≡ l.fn.scope.items;
  left : list_all (λ e. uses_known (with_lambdas e) l.fn.scope.items) (drop l.e-index l.trees) ≡ list_all (λ e. uses_known (with_lambdas e) l.fn.scope.items) l.trees;
}
