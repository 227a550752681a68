use Rattle.std.proofs.Common.{◌∙◌, ap, sym}
use Rattle.kernel_shapes.specs.Codes.{mean}
use Rattle.kernel_shapes.specs.Rows.{branches_of}
use Rattle.kernel_shapes.specs.Shape.{join, join_all}
use Rattle.shape_bounds.proofs.Means.{mean-Empty}
use Rattle.shape_bounds.proofs.Rowed.{branches_join, none_is, ok_each}
use Rattle.shape_bounds.proofs.rows.branches.Goals as goal

pub returns-in-If-len3 : goal.returns-in-If-len3
returns-in-If-len3 c =
    ok_each _ (join (mean c.a-item.result) (mean c.b-item.result)) _
    (λ v. branches_join c.args.operands.now c.a-item.result c.b-item.result c.in-If-len3.len_at_least c.in-If-len3.len_below c.a-item.is c.b-item.is)
    c.join.ensures

pub returns-in-NoCase-empty : goal.returns-in-NoCase-empty
returns-in-NoCase-empty c = λ v. mean-Empty ∙ sym (ap (λ as'. join_all (branches_of as')) (none_is c.args.operands.now c.in-NoCase-empty.len_below))
