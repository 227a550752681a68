use Rattle.std.proofs.Common.{[], ◌∷◌, ◌++◌, map, take}
use Rattle.kernel_shapes.specs.Codes.{mean}
use Rattle.kernel_shapes.specs.Kernel.{ker_sized}
use Rattle.kernel_shapes.specs.Shape.{inside}
use Rattle.shape_bounds.specs.inner.Steps.{SizesTurns}
use Rattle.shape_bounds.specs.Sizes.{SizesEach, stands}
use Rattle.shape_bounds.proofs.names.Names.+size.Given as goal

abbrev pub invariant-sizes-loop-i : goal.invariant-sizes-loop-i
invariant-sizes-loop-i l = SizesEach l.fn.self l.self (map (ker_sized l.fn.self.width) (take l.i l.ks)) (stands l.at) l.shapes.items

abbrev pub invariant-steps-loop : goal.invariant-steps-loop
invariant-steps-loop l =
    SizesTurns l.fn.self l.self (ker_sized l.fn.self.width l.body) l.numbers l.counter (mean l.fn.start) (inside (mean l.list)) (l.values.items ++ l.value ∷ [])
