use Rattle.std.proofs.Common.{ℕ, ◌≤◌, ◌<◌, ◌≢◌, slice_index}
use Rattle.symbolic_mc.proofs.lines.line_end.Given as goal

abbrev pub invariant-loop-i : goal.invariant-loop-i
invariant-loop-i l = (k : ℕ) → l.at ≤ k → k < l.i → slice_index l.bytes k ≢ 10
