use Rattle.std.proofs.Common.{◌<◌, ◌⊎◌}
use Rattle.std.specs.Prelude.{Contains}
use Rattle.sat_formula.specs.declared.lit.Lit.{Lit}
use Rattle.refutation_checker.specs.Follows.{negation}
use Rattle.watched_search.specs.Trail.{lits_of}
use Rattle.plain_solver.proofs.model.first_free.Given as goal

abbrev pub invariant-loop-var : goal.invariant-loop-var
invariant-loop-var l = (m : Lit) → m.var < l.var → Contains (lits_of l.trail.entries) m ⊎ Contains (lits_of l.trail.entries) (negation m)
