use Rattle.std.proofs.Common.{◌≡◌, take}
use Rattle.watched_search.specs.Trail.{lits_of}
use Rattle.cdcl_solver.specs.inner.Checking.{Assumes}
use Rattle.cdcl_solver.proofs.checking.assume_false.Given as goal

abbrev pub invariant-loop-l : goal.invariant-loop-l
invariant-loop-l l = record {
  assumed : Assumes (take l.l-index l.lits) (lits_of l.trail.entries);
  kept : l.trail ≡ record l.initial.trail { entries = l.trail.entries };
}
