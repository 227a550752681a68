use Rattle.std.proofs.Common.{All}
use Rattle.sat_formula.specs.Lit.{IsBelow}
use Rattle.function_tests.proofs.sequences.literals.Given as goal

abbrev pub invariant-loop-i : goal.invariant-loop-i
invariant-loop-i l = All (IsBelow l.fn.b.formula.vars) l.list.items
