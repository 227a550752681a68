use Rattle.std.proofs.Common.{◌≡◌, map, take}
use Rattle.shape_bounds.proofs.paths.numbers_of.Given as goal

abbrev pub invariant-loop-set : goal.invariant-loop-set
invariant-loop-set l = l.numbers.items ≡ map (λ p. p.0) (take l.set-index l.sets)
