use Rattle.std.proofs.Common.{length, map}
use Rattle.snowcat_types.specs.inner.Awaited.{IsRunning, left}
use Rattle.snowcat_types.specs.inner.Gathered.{system_of_built}
use Rattle.snowcat_types.proofs.solving.solve.Given as goal

abbrev pub invariant-steps : goal.invariant-steps
invariant-steps l = IsRunning (system_of_built l.system) (map (λ w. w.now) l.waits.items) l.awaiting l.subst

abbrev pub decreases-steps : goal.decreases-steps
decreases-steps l = length (left l.awaiting.marks.items (map (λ w. w.now) l.waits.items))
