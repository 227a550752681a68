use Rattle.std.proofs.Common.{◌∙◌, ap}
use Rattle.kernel_shapes.specs.Codes.{mean}
use Rattle.kernel_shapes.specs.Shape.{Set}
use Rattle.shape_bounds.proofs.Rowed.{ok_each, subsets_kept}
use Rattle.shape_bounds.proofs.rows.subsets_of.Goals as goal

pub returns : goal.returns
returns c =
    ok_each _ (Set c.power.result (mean c.in_ok-member.member)) _
    (λ v.
    ap (Set c.power.result) c.in_ok-member.ensures
    ∙ subsets_kept v c.power.result c.count-most.result (mean c.args.a.now) (mean c.in_ok-inner.inner) c.power.ensures c.count-most.ensures
    (c.in_ok-inner.ensures ∙ c.inside.ensures))
    c.set-2.ensures
