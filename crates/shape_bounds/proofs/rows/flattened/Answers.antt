use Rattle.std.proofs.Common.{◌∙◌}
use Rattle.kernel_shapes.specs.Codes.{mean}
use Rattle.kernel_shapes.specs.Shape.{Set}
use Rattle.shape_bounds.proofs.Rowed.{flatten_kept, ok_each}
use Rattle.shape_bounds.proofs.rows.flattened.Goals as goal

pub returns-in_ok-member-in-Some : goal.returns-in_ok-member-in-Some
returns-in_ok-member-in-Some c =
    ok_each _ (Set c.product.result (mean c.in_ok-member-in-Some.member)) _
    (λ v. flatten_kept v c.product.result c.count.result c.count-in-Some.result (mean c.args.a.now) (mean c.in-Some.b.now) (mean c.in_ok-member-in-Some.member)
    c.product.ensures c.count.ensures c.count-in-Some.ensures c.in-Some.ensures (c.in_ok-member-in-Some.ensures ∙ c.inside-in-Some.ensures))
    c.set.ensures
