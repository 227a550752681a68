use Rattle.std.proofs.Common.{rules}
use Rattle.sat_formula.proofs.Keeping.{AreGates-none}
use Rattle.sat_formula.proofs.formula.Formula.new.Goals as goal

pub invariant_of-result : goal.invariant_of-result
invariant_of-result c = record {
  well_formed = search rules;
  gates = AreGates-none _ _ c.new.ensures.empty;
}
