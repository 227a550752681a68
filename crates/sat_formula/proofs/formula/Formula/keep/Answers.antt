use Rattle.sat_formula.proofs.Keeping.{AreGates-same, AreGates-insert}
use Rattle.sat_formula.proofs.formula.Formula.keep.Goals as goal

pub invariant_of-self : goal.invariant_of-self
invariant_of-self c = record {
  well_formed = c.self.invariant.well_formed;
  gates = AreGates-same _ _ _ c.in_err-insert.ensures.err c.self.invariant.gates;
}

pub invariant_of-self-2 : goal.invariant_of-self-2
invariant_of-self-2 c = record {
  well_formed = c.self.invariant.well_formed;
  gates = AreGates-insert _ _ _ c.args.gate c.args.l (rw (← c.self.view_is) at c.requires) c.in_ok-insert.ensures.updates.0 c.self.invariant.gates;
}
