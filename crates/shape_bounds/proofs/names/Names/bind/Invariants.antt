use Rattle.std.proofs.Common.{map, take}
use Rattle.kernel_shapes.specs.Codes.{mean}
use Rattle.shape_bounds.specs.Sizes.{IsBound}
use Rattle.shape_bounds.proofs.names.Names.bind.Given as goal

abbrev pub invariant-loop-i : goal.invariant-loop-i
invariant-loop-i l = IsBound l.fn.self l.self (take l.i l.numbers) (map mean (take l.i l.shapes))
