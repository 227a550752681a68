use Rattle.std.proofs.Common.{◌≡◌, map, take}
use Rattle.kernel_shapes.specs.Codes.{mean}
use Rattle.kernel_shapes.specs.Shape.{inside}
use Rattle.shape_bounds.proofs.records.insides.Given as goal

abbrev pub invariant-loop-set : goal.invariant-loop-set
invariant-loop-set l = map mean l.members.items ≡ map (λ s. inside (mean s)) (take l.set-index l.sets)
