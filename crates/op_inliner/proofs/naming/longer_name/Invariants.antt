use Rattle.std.proofs.Common.{◌≡◌, ◌++◌, replicate}
use Rattle.op_inliner.proofs.naming.longer_name.Given as goal

abbrev pub invariant-loop : goal.invariant-loop
invariant-loop l = l.bytes.items ≡ l.name ++ replicate l.counter 39
