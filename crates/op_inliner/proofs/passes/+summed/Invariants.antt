use Rattle.std.proofs.Common.{◌≡◌, length, map, take, ◌-◌}
use Rattle.op_inliner.specs.inner.Sums.{scope_of, summed, sums_at}
use Rattle.op_inliner.proofs.PassSteps.{Defining}
use Rattle.op_inliner.proofs.passes.+summed.Given as goal

abbrev pub invariant-all_summed-loop-e : goal.invariant-all_summed-loop-e
invariant-all_summed-loop-e l =
    (l.counts.items ≡ sums_at (map summed (take l.e-index l.trees)) l.unknown (scope_of l.fn.scope.items))
    × (scope_of l.scope.items ≡ scope_of l.fn.scope.items)

abbrev pub invariant-define_all-loop-i : goal.invariant-define_all-loop-i
invariant-define_all-loop-i l = Defining l.lets l.names l.trees l.unknown l.i l.first l.fn.scope.items l.scope.items

abbrev pub decreases-define_all-loop-i : goal.decreases-define_all-loop-i
decreases-define_all-loop-i l = length l.lets - l.i
