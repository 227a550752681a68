use Rattle.std.proofs.Common.{All, take}
use Rattle.sat_formula.specs.Lit.{IsBelow}
use Rattle.cdcl_solver.proofs.acceptance.are_below.Given as goal

abbrev pub invariant-loop-l : goal.invariant-loop-l
invariant-loop-l l = All (IsBelow l.vars) (take l.l-index l.lits)
