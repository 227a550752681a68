use Rattle.rewriting_tests.proofs.KeptShapes.{kept-atom}
use Rattle.rewriting_tests.proofs.shapes.atom.Goals as goal

pub returns : goal.returns
returns c = kept-atom
