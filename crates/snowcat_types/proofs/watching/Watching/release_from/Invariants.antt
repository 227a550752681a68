use Rattle.std.proofs.Common.{take}
use Rattle.snowcat_rows.specs.Views.{kept_by}
use Rattle.snowcat_types.specs.inner.Awaited.{Holds}
use Rattle.snowcat_types.proofs.watching.Watching.release_from.Given as goal

abbrev pub invariant-loop-i : goal.invariant-loop-i
invariant-loop-i l = Holds (take l.mark (kept_by l.subst)) l.initial.self (take l.i (kept_by l.subst)) l.self
