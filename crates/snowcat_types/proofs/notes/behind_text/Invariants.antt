use Rattle.std.proofs.Common.{length, ◌-◌}
use Rattle.snowcat_types.proofs.NoteSteps.{Matching}
use Rattle.snowcat_types.proofs.notes.behind_text.Given as goal

abbrev pub invariant-loop-i : goal.invariant-loop-i
invariant-loop-i l = Matching l.beginning l.bytes l.i

abbrev pub decreases-loop-i : goal.decreases-loop-i
decreases-loop-i l = length l.beginning - l.i
