use Rattle.std.proofs.Common.{◌≡◌, ◌≤◌, drop, length, map}
use Rattle.op_inliner.specs.Known.{all_use, lets_use, uses_known}
use Rattle.op_inliner.specs.inner.Knowing.{Begins}
use Rattle.op_inliner.proofs.known.+uses_known.Given as goal

abbrev pub invariant-all_use-loop-e : goal.invariant-all_use-loop-e
invariant-all_use-loop-e l = record {
  scope : l.scope.items ≡ l.fn.scope.items;
  left : all_use (map uses_known (drop l.e-index l.trees)) l.fn.scope.items ≡ all_use (map uses_known l.trees) l.fn.scope.items;
}

abbrev pub invariant-lets_known-loop-i : goal.invariant-lets_known-loop-i
invariant-lets_known-loop-i l = record {
  first : l.first ≤ length l.names;
  grown : Begins l.fn.scope.items l.scope.items;
  left : lets_use (drop l.i l.lets) (drop l.first l.names) (map uses_known (drop l.i l.trees)) l.scope.items ≡ lets_use l.lets l.names (map uses_known l.trees) l.fn.scope.items;
}
