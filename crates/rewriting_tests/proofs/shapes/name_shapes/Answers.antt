use Rattle.std.proofs.Common.{subst, sym}
use Rattle.rewriting_tests.specs.inner.KeptShapes.{AreKept}
use Rattle.rewriting_tests.proofs.KeptShapes.{kept-more, kept-none}
use Rattle.rewriting_tests.proofs.shapes.name_shapes.Goals as goal

pub loop-name-init : goal.loop-name-init
loop-name-init c = kept-none _ c.new-shapes.ensures.items

pub loop-name-preserved : goal.loop-name-preserved
loop-name-preserved c = kept-more _ _ _ c.loop-name.invariant c.in_ok-shape.ensures c.in_ok-push.ensures.items

pub returns : goal.returns
returns c = subst AreKept (sym c.from_vec.ensures) c.loop-name.invariant
