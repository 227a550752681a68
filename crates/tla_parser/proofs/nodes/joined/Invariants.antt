use Rattle.std.proofs.Common.{◌≡◌, ◌++◌}
use Rattle.tla_parser.proofs.nodes.joined.Given as goal

abbrev pub invariant-loop-item : goal.invariant-loop-item
invariant-loop-item g l = l.items ≡ l.fn.first ++ l.yielded
