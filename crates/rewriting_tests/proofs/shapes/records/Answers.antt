use Rattle.rewriting_tests.proofs.KeptShapes.{kept-record}
use Rattle.rewriting_tests.proofs.shapes.records.Goals as goal

pub returns : goal.returns
returns c = kept-record _ c.requires
