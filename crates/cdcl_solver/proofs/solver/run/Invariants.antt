use Rattle.cdcl_solver.specs.inner.Solving.{IsSolving, IsFound, IsUnspent, Keeps, left}
use Rattle.cdcl_solver.proofs.solver.run.Given as goal

abbrev pub invariant-search : goal.invariant-search
invariant-search l = record {
  solving : IsSolving l.solver;
  found : IsFound l.solver.search l.found;
  unspent : IsUnspent l.budget l.solver.steps;
  keeps : Keeps l.fn.solver l.solver;
}

abbrev pub decreases-search : goal.decreases-search
decreases-search l = left l.solver
