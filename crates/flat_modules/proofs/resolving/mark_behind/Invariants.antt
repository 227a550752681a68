use Rattle.std.proofs.Common.{◌≡◌, ◌++◌, false, replicate}
use Rattle.flat_modules.proofs.resolving.mark_behind.Given as goal

abbrev pub invariant-loop-i : goal.invariant-loop-i
invariant-loop-i l = l.marks.items ≡ l.initial.marks.items ++ replicate l._i false
