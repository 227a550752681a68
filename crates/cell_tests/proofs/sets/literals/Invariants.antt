use Rattle.std.proofs.Common.{All}
use Rattle.sat_formula.specs.Lit.{IsBelow}
use Rattle.cell_tests.proofs.sets.literals.Given as goal

abbrev pub invariant-loop-code : goal.invariant-loop-code
invariant-loop-code l = All (IsBelow l.b.formula.vars) l.list.items
