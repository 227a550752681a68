use Rattle.std.proofs.Common.{◌∙◌}
use Rattle.sat_formula.proofs.Keeping.{AreGates-at}
use Rattle.sat_formula.proofs.formula.Formula.kept.Goals as goal

pub returns : goal.returns
returns c = rw (← c.self.view_is) (AreGates-at _ _ c.args.gate.now c.copied.result c.self.invariant.gates (c.copied.ensures ∙ c.get.ensures.value))
