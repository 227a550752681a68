use Rattle.std.proofs.Common.{◌≡◌, ◌⊎◌, All, take, IsTrue}
use Rattle.std.specs.Prelude.{Contains}
use Rattle.refutation_checker.specs.Follows.{negation}
use Rattle.watched_search.specs.Trail.{lits_of}
use Rattle.cdcl_solver.proofs.acceptance.is_unit.Given as goal

abbrev pub invariant-loop-l : goal.invariant-loop-l
invariant-loop-l l = record {
  each : All (λ m. (m ≡ l.u) ⊎ Contains (lits_of (take l.count l.search.entries)) (negation m)) (take l.l-index l.lits);
  has : IsTrue l.found → Contains (take l.l-index l.lits) l.u;
}
