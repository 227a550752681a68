use Rattle.std.proofs.Common.{arith}
use Rattle.rewriting_tests.proofs.KeptShapes.{stays-sound}
use Rattle.rewriting_tests.proofs.shapes.with_shapes.Goals as goal

pub returns : goal.returns
returns c =
    stays-sound _ c.args.kernel.now _ _ c.args.shapes.now _ c.requires.kept c.new-bound.ensures c.in_ok-tree.ensures
    c.requires.sound

pub with_bounds-requires : goal.with_bounds-requires
with_bounds-requires c = record { sized = record { some = (let p = c.requires.from in omega (arith, p)); narrow = c.requires.to } }
