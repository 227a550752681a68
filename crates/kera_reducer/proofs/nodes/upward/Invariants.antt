use Rattle.std.proofs.Common.{◌≡◌, ◌+◌, ◌++◌, ◌-◌}
use Rattle.kernel_reduction.specs.Reduction.{upward}
use Rattle.kera_reducer.proofs.nodes.upward.Given as goal

abbrev pub invariant-loop : goal.invariant-loop
invariant-loop l =
    (l.next ≡ l.first + l.counter) × (l.numbers.items ++ upward l.next (l.count - l.counter) ≡ upward l.first l.count)
