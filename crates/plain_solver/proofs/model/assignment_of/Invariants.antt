use Rattle.std.proofs.Common.{◌≡◌, ◌<◌, true, length}
use Rattle.std.specs.Prelude.{Contains}
use Rattle.sat_formula.specs.declared.lit.Lit.{Lit}
use Rattle.sat_formula.specs.Lit.{lit_value}
use Rattle.watched_search.specs.Trail.{lits_of}
use Rattle.plain_solver.proofs.model.assignment_of.Given as goal

abbrev pub invariant-loop-var : goal.invariant-loop-var
invariant-loop-var l = record {
  size : length l.values.items ≡ l.var;
  agrees : (m : Lit) → m.var < l.var → Contains (lits_of l.trail.entries) m → lit_value m l.values.items ≡ true;
}
