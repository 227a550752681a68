use Rattle.std.proofs.Common.{◌≡◌, drop}
use Rattle.refutation_checker.specs.Follows.{Propagates}
use Rattle.watched_search.specs.Trail.{lits_of}
use Rattle.cdcl_solver.proofs.checking.hints_work.Given as goal

abbrev pub invariant-loop-i : goal.invariant-loop-i
invariant-loop-i l = record {
  works : Propagates l.search.clauses (lits_of l.trail.entries) (drop l.i l.hints) → Propagates l.search.clauses (lits_of l.initial.trail.entries) l.hints;
  kept : l.trail ≡ record l.initial.trail { entries = l.trail.entries };
}
