use Rattle.rewriting_tests.proofs.KeptShapes.{kept-empty}
use Rattle.rewriting_tests.proofs.shapes.of_no_value.Goals as goal

pub returns : goal.returns
returns c = kept-empty
