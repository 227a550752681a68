use Rattle.std.proofs.Common.{ap}
use Rattle.shape_bounds.specs.inner.Plain.{row_of}
use Rattle.shape_bounds.proofs.Rowed.{by_row, two_are}
use Rattle.kernel_shapes.specs.Rows.{a_range}
use Rattle.shape_bounds.proofs.rows.part.Goals as goal

pub returns-in-Range-len2 : goal.returns-in-Range-len2
returns-in-Range-len2 c =
    by_row c.args.op.now a_range _ _ _ _ (ap row_of c.in-Range-len2.is-0)
    (two_are c.args.operands.now c.a-item.result c.b-item.result c.in-Range-len2.len_at_least c.in-Range-len2.len_below c.a-item.is c.b-item.is)
    c.range.ensures
