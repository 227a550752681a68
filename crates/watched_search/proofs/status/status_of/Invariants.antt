use Rattle.std.proofs.Common.{take}
use Rattle.refutation_checker.proofs.StatusLemmas.{Found}
use Rattle.watched_search.specs.Trail.{lits_of}
use Rattle.watched_search.specs.Searching.{clause_at}
use Rattle.watched_search.proofs.status.status_of.Given as goal

abbrev pub invariant-loop-k : goal.invariant-loop-k
invariant-loop-k l = Found (lits_of l.trail.entries) (take l.k (clause_at l.watched.clauses l.c)) l.found
