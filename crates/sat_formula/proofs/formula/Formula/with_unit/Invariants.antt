use Rattle.std.proofs.Common.{◌≡◌, take}
use Rattle.sat_formula.proofs.formula.Formula.with_unit.Given as goal

abbrev pub invariant-loop-c : goal.invariant-loop-c
invariant-loop-c l = l.clauses ≡ take l.c-index l.c-items
