use Rattle.std.proofs.Common.{ap}
use Rattle.shape_bounds.specs.inner.Plain.{row_of}
use Rattle.shape_bounds.proofs.Rowed.{by_row, one_is}
use Rattle.shape_bounds.proofs.rows.union.Goals as goal

pub returns-in-Flatten-len1 : goal.returns-in-Flatten-len1
returns-in-Flatten-len1 c =
    by_row c.args.op.now _ _ _ _ _ (ap row_of c.in-Flatten-len1.is-0)
    (one_is c.args.operands.now c.a-item-then-this-lt2.result c.in-Flatten-len1.len_at_least c.in-Flatten-len1.len_below c.a-item-then-this-lt2.is)
    c.flattened.ensures
