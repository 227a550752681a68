use Rattle.std.proofs.Common.{◌≡◌}
use Rattle.base_tests.proofs.queue.count_alike.Given as goal

abbrev pub invariant-calls : goal.invariant-calls
invariant-calls l = record { same : l.plain.items ≡ l.queue.items; room : l.queue.room ≡ 12 }
