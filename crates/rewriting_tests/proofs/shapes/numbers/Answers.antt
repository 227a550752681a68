use Rattle.rewriting_tests.proofs.KeptShapes.{kept-num}
use Rattle.rewriting_tests.proofs.shapes.numbers.Goals as goal

pub returns : goal.returns
returns c = kept-num _ _
