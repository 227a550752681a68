use Rattle.kernel_shapes.specs.Codes.{mean}
use Rattle.shape_bounds.proofs.SameShapes.{other_fields, other_lengths, same_records}
use Rattle.shape_bounds.proofs.equality.+same.Goals as goal

pub is_same-returns-in-Rec-b-4 : goal.is_same-returns-in-Rec-b-4
is_same-returns-in-Rec-b-4 t c =
    same_records c.args.a.now c.args.b.now c.as_slice.result.now c.as_slice-in-Rec-b-4.result.now c.in-Rec.xs c.in-Rec-b-4.ys c.same_fields.result c.in-Rec.is c.in-Rec-b-4.is
    c.as_slice.ensures c.as_slice-in-Rec-b-4.ensures c.same_fields.ensures

pub are_same-returns-then-xs-ys : goal.are_same-returns-then-xs-ys
are_same-returns-then-xs-ys t c = other_lengths mean mean c.args.xs.now c.args.ys.now c.if-xs-ys.true

pub same_fields-returns-then-xs-ys : goal.same_fields-returns-then-xs-ys
same_fields-returns-then-xs-ys t c = other_fields c.args.xs.now c.args.ys.now c.if-xs-ys.true
