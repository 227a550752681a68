use Rattle.std.proofs.Common.{◌≡◌, ◌-◌, ◌≤◌, [], length, take}
use Rattle.refutation_checker.specs.Follows.{known}
use Rattle.watched_search.specs.Trail.{lits_of}
use Rattle.cdcl_solver.specs.inner.Chain.{Chain}
use Rattle.plain_solver.specs.inner.Occurrences.{AllKept}
use Rattle.cdcl_solver.specs.inner.Weight.{weight}
use Rattle.plain_solver.proofs.propagation.propagate.Given as goal

abbrev pub invariant-literals : goal.invariant-literals
invariant-literals l = record {
  chain : Chain (known l.clauses l.steps) [] l.trail.entries;
  room : l.trail.room ≡ l.initial.trail.room;
  weight : weight l.initial.trail.room l.trail.entries ≤ weight l.initial.trail.room l.initial.trail.entries;
  head : l.next ≤ length l.trail.entries;
  kept : AllKept (known l.clauses l.steps) (take l.next (lits_of l.trail.entries)) (lits_of l.trail.entries);
}

abbrev pub decreases-literals : goal.decreases-literals
decreases-literals l = l.trail.room - l.next
