use Rattle.std.proofs.Common.{◌≡◌, ◌++◌, take, zip}
use Rattle.expr_rewriter.proofs.names.push_all.Given as goal

abbrev pub invariant-loop-i : goal.invariant-loop-i
invariant-loop-i l = l.bound.items ≡ l.fn.bound.items ++ zip (take l.i l.numbers) (take l.i l.cells)
