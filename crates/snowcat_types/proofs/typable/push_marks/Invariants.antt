use Rattle.std.proofs.Common.{◌≡◌, ◌++◌, false, replicate}
use Rattle.snowcat_types.proofs.typable.push_marks.Given as goal

abbrev pub invariant-loop : goal.invariant-loop
invariant-loop l = l.marks.items ≡ l.fn.marks.items ++ replicate l.counter false
