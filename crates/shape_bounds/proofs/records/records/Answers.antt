use Rattle.std.proofs.Common.{◌∙◌, ap, ap₂, map}
use Rattle.kernel_shapes.specs.Codes.{mean}
use Rattle.kernel_shapes.specs.Rows.{record_shape}
use Rattle.kernel_shapes.specs.Shape.{Set}
use Rattle.shape_bounds.proofs.Rowed.{ok_each}
use Rattle.shape_bounds.proofs.records.records.Goals as goal

pub returns : goal.returns
returns c =
    ok_each _ (Set c.product_of.result (mean c.in_ok-member.member)) _
    (λ v. ap₂ Set c.product_of.ensures (c.in_ok-member.ensures v ∙ ap (record_shape c.args.names.now) (ap (map mean) c.as_slice.ensures.value ∙ c.in_ok-members.ensures)))
    c.set.ensures
