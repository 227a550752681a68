use Rattle.std.proofs.Common.{◌≡◌, length}
use Rattle.tla_parser.specs.inner.Recognition.{followed}
use Rattle.tla_parser.proofs.recognizer.Recognizer.follow.Given as goal

abbrev pub invariant-loop-next : goal.invariant-loop-next
invariant-loop-next l = followed l.token l.operand l.self ≡ followed l.fn.token l.fn.operand l.fn.self

abbrev pub decreases-loop-next : goal.decreases-loop-next
decreases-loop-next l = length l.self.stack.items
