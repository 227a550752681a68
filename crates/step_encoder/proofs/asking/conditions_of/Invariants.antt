use Rattle.step_encoder.proofs.Conditions.{SoFar}
use Rattle.step_encoder.proofs.asking.conditions_of.Given as goal

abbrev pub invariant-loop-i : goal.invariant-loop-i
invariant-loop-i l = SoFar l.fn.b l.b l.env l.shapes l.trees l.i l.conditions.items
