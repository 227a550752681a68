use Rattle.std.proofs.Common.{◌≡◌, take}
use Rattle.decision_queue.specs.Queue.{without}
use Rattle.base_tests.proofs.queue.kept.Given as goal

abbrev pub invariant-loop-x : goal.invariant-loop-x
invariant-loop-x l = l.kept.items ≡ without l.v (take l.x-index l.plain)
