use Rattle.std.proofs.Common.{◌≡◌, ◌≤◌, length, drop}
use Rattle.tla_evaluator.proofs.Words.{sublists}
use Rattle.tla_evaluator.proofs.sets.sublists.Given as goal

abbrev pub invariant-loop-i : goal.invariant-loop-i
invariant-loop-i l = record { within : l.i ≤ length l.items; same : l.lists.items ≡ sublists (drop l.i l.items) }

abbrev pub decreases-loop-i : goal.decreases-loop-i
decreases-loop-i l = l.i
