use Rattle.std.proofs.Common.{◌≤◌, length}
use Rattle.plain_search.specs.inner.Search.{WasCalm}
use Rattle.plain_search.proofs.Passed.{Passed}
use Rattle.plain_search.proofs.Work.{work}
use Rattle.plain_search.proofs.searching.search.Given as goal

abbrev pub invariant-values : goal.invariant-values
invariant-values l = record {
  fits : length l.values.items ≤ l.cnf.vars;
  passed : Passed l.cnf.vars l.cnf.clauses l.values.items;
  calm : WasCalm l.values.items l.cnf.clauses;
}

abbrev pub decreases-values : goal.decreases-values
decreases-values l = work l.cnf.vars l.values.items
