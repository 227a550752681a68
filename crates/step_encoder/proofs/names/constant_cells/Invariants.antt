use Rattle.std.proofs.Common.{◌≡◌, map}
use Rattle.step_encoder.proofs.Each.{one_if}
use Rattle.step_encoder.proofs.names.constant_cells.Given as goal

abbrev pub invariant-loop-constant : goal.invariant-loop-constant
invariant-loop-constant l = l.items.items ≡ map one_if (map (λ p. (p.0.now, p.1.now)) l.yielded)
