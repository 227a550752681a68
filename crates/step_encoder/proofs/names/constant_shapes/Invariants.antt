use Rattle.std.proofs.Common.{◌≡◌, map}
use Rattle.step_encoder.proofs.Each.{shape_of_pair}
use Rattle.step_encoder.proofs.names.constant_shapes.Given as goal

abbrev pub invariant-loop-constant : goal.invariant-loop-constant
invariant-loop-constant l = l.copies.items ≡ map shape_of_pair (map (λ p. (p.0.now, p.1.now)) l.yielded)
