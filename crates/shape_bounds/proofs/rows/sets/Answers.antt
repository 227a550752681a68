use Rattle.std.proofs.Common.{ap}
use Rattle.shape_bounds.specs.inner.Plain.{row_of}
use Rattle.shape_bounds.proofs.Rowed.{by_row, one_is, two_are}
use Rattle.shape_bounds.proofs.rows.sets.Goals as goal

pub returns-in-Subsets-len1 : goal.returns-in-Subsets-len1
returns-in-Subsets-len1 c =
    by_row c.args.op.now _ _ _ _ _ (ap row_of c.in-Subsets-len1.is-0)
    (one_is c.args.operands.now c.a-item.result c.in-Subsets-len1.len_at_least c.in-Subsets-len1.len_below c.a-item.is)
    c.subsets_of.ensures

pub returns-in-Functions-len2 : goal.returns-in-Functions-len2
returns-in-Functions-len2 c =
    by_row c.args.op.now _ _ _ _ _ (ap row_of c.in-Functions-len2.is-0)
    (two_are c.args.operands.now c.a-item-then-this-lt3.result c.b-item.result c.in-Functions-len2.len_at_least c.in-Functions-len2.len_below c.a-item-then-this-lt3.is c.b-item.is)
    c.functions_of.ensures
