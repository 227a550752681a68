use Rattle.std.proofs.Common.{subst, sym}
use Rattle.rewriting_tests.specs.inner.KeptShapes.{IsKept}
use Rattle.rewriting_tests.proofs.KeptShapes.{kept-set}
use Rattle.rewriting_tests.proofs.shapes.sets.Goals as goal

pub returns : goal.returns
returns c = kept-set _ _ c.ranges.count.fits (subst IsKept (sym c.in_ok-boxed.ensures) c.requires)
