use Rattle.cdcl_solver.specs.inner.Weight.{weight}
use Rattle.plain_solver.specs.inner.Search.{IsSearching, IsReady, IsUnspent, Keeps}
use Rattle.plain_solver.proofs.searching.run.Given as goal

abbrev pub invariant-search : goal.invariant-search
invariant-search l = record {
  searching : IsSearching l.search;
  ready : IsReady l.search;
  unspent : IsUnspent l.budget l.search.steps;
  keeps : Keeps l.fn.search l.search;
}

abbrev pub decreases-search : goal.decreases-search
decreases-search l = weight l.search.trail.room l.search.trail.entries
