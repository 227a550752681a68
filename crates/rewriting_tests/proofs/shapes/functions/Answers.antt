use Rattle.std.proofs.Common.{subst, sym}
use Rattle.rewriting_tests.specs.inner.KeptShapes.{IsKept}
use Rattle.rewriting_tests.proofs.KeptShapes.{kept-function}
use Rattle.rewriting_tests.proofs.shapes.functions.Goals as goal

pub returns : goal.returns
returns c =
    kept-function _ _ _ c.ranges.count.fits (subst IsKept (sym c.in_ok-from.ensures) c.requires.argument)
    (subst IsKept (sym c.in_ok-to.ensures) c.requires.value)
