use Rattle.std.proofs.Common.{map, take}
use Rattle.snowcat_types.specs.inner.Gathered.{entries_of, system_of_built}
use Rattle.snowcat_types.specs.inner.Runs.{HasVisited}
use Rattle.snowcat_types.proofs.solving.visit_all.Given as goal

abbrev pub invariant-loop-i : goal.invariant-loop-i
invariant-loop-i l = HasVisited (system_of_built l.system) (take l.i (entries_of l.system.entries)) (map (λ w. w.now) l.waits.items) l.subst
