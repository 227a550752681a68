use Rattle.std.proofs.Common.{◌-◌, length}
use Rattle.watched_search.specs.inner.Visiting.{IsDrivenTo}
use Rattle.watched_search.proofs.propagation.admit_all.Given as goal

abbrev pub invariant-loop-progress : goal.invariant-loop-progress
invariant-loop-progress l = IsDrivenTo l.watched l.initial.trail l.trail l.progress

abbrev pub decreases-loop-progress : goal.decreases-loop-progress
decreases-loop-progress l = length l.watched.clauses - l.progress.ready
