use Rattle.std.proofs.Common.{◌≡◌, [], drop}
use Rattle.op_inliner.specs.inner.Sums.{definitions_sums, scope_of}
use Rattle.op_inliner.proofs.passes.definitions_counted.Given as goal

abbrev pub invariant-loop-i : goal.invariant-loop-i
invariant-loop-i l = definitions_sums (drop l.i l.defs) (scope_of l.scope.items) ≡ definitions_sums l.defs []
