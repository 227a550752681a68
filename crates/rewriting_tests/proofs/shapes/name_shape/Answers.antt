use Rattle.std.proofs.Common.{arith}
use Rattle.rewriting_tests.proofs.shapes.name_shape.Goals as goal

pub shape_of-requires : goal.shape_of-requires
shape_of-requires c = record { sized = record { some = (let p = c.requires.from in omega (arith, p)); narrow = c.requires.to } }
