use Rattle.std.proofs.Common.{◌≡◌, take}
use Rattle.watched_search.proofs.searching.watch_all.Given as goal

abbrev pub invariant-loop-clause : goal.invariant-loop-clause
invariant-loop-clause l = record {
  vars : l.watched.vars ≡ l.vars;
  clauses : l.watched.clauses ≡ take l.clause-index l.clauses;
}
