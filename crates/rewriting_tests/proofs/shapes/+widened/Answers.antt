use Rattle.std.proofs.Common.{subst, sym}
use Rattle.rewriting_tests.specs.inner.KeptShapes.{AreFieldsKept, AreKept}
use Rattle.rewriting_tests.proofs.KeptShapes.{fields-more, fields-none, kept-more, kept-none}
use Rattle.rewriting_tests.proofs.shapes.+widened.Goals as goal

pub widened_items-loop-i-init : goal.widened_items-loop-i-init
widened_items-loop-i-init t c = kept-none _ c.new-items.ensures.items

pub widened_items-loop-i-preserved : goal.widened_items-loop-i-preserved
widened_items-loop-i-preserved t c =
    kept-more _ _ _ c.loop-i.invariant c.in_ok-item.ensures c.in_ok-push.ensures.items

pub widened_items-returns : goal.widened_items-returns
widened_items-returns t c = subst AreKept (sym c.from_vec.ensures) c.loop-i.invariant

pub widened_fields-loop-i-init : goal.widened_fields-loop-i-init
widened_fields-loop-i-init t c = fields-none _ c.new-items.ensures.items

pub widened_fields-loop-i-preserved : goal.widened_fields-loop-i-preserved
widened_fields-loop-i-preserved t c =
    fields-more _ _ _ c.loop-i.invariant c.in_ok-item.ensures c.in_ok-push.ensures.items

pub widened_fields-returns : goal.widened_fields-returns
widened_fields-returns t c = subst AreFieldsKept (sym c.from_vec.ensures) c.loop-i.invariant
