use Rattle.std.proofs.Common.{◌≡◌, ◌-◌, length}
use Rattle.watched_search.specs.inner.Keeping.{IsPaired, IsKept}
use Rattle.watched_search.specs.inner.Visiting.{IsDriven}
use Rattle.watched_search.proofs.propagation.propagate_all.Given as goal

abbrev pub invariant-loop-progress : goal.invariant-loop-progress
invariant-loop-progress l = record {
  vars : l.watched.vars ≡ l.fn.watched.vars;
  clauses : l.watched.clauses ≡ l.fn.watched.clauses;
  paired : IsPaired l.watched;
  driven : IsDriven l.fn.watched.clauses l.fn.trail l.trail;
  kept : IsKept l.watched l.trail l.progress;
  ready : l.progress.ready ≡ length l.watched.clauses;
}

abbrev pub decreases-loop-progress : goal.decreases-loop-progress
decreases-loop-progress l = l.trail.room - l.progress.head
