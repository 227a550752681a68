use Rattle.rewriting_tests.proofs.KeptShapes.{kept-tuple}
use Rattle.rewriting_tests.proofs.shapes.tuples.Goals as goal

pub returns : goal.returns
returns c = kept-tuple _ c.requires
