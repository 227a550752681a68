use Rattle.std.proofs.Common.{ap, ap₂, ◌∙◌, sym}
use Rattle.std.proofs.lemmas.Int.{to_z-of_z}
use mir.Syntax.{w128}
use Rattle.kernel_shapes.specs.Shape.{moved}
use Rattle.shape_bounds.specs.Kept.{applied}
use Rattle.shape_bounds.specs.declared.intervals.Arithmetic.TheVariants as arithmetic
use Rattle.shape_bounds.proofs.Ends.{moved_saturated}
use Rattle.shape_bounds.proofs.intervals.end.Goals as goal

pub returns-in-Sum : goal.returns-in-Sum
returns-in-Sum c =
    to_z-of_z w128 c.moved.result (record { sfits = c.moved.type_inv })
    ∙ c.moved.ensures
    ∙ ap (moved c.args.width) (to_z-of_z w128 c.saturating_add.result (record { sfits = c.saturating_add.type_inv }) ∙ c.saturating_add.ensures)
    ∙ moved_saturated c.args.width c.requires.sized.narrow _
    ∙ ap₂ (λ x y. moved c.args.width (applied arithmetic.Sum x y)) (to_z-of_z w128 c.args.a c.ranges.a) (to_z-of_z w128 c.args.b c.ranges.b)
    ∙ sym (ap (λ o. moved c.args.width (applied o c.args.a c.args.b)) c.in-Sum.is)

pub returns-in-Product : goal.returns-in-Product
returns-in-Product c =
    to_z-of_z w128 c.moved-in-Product.result (record { sfits = c.moved-in-Product.type_inv })
    ∙ c.moved-in-Product.ensures
    ∙ ap (moved c.args.width) (to_z-of_z w128 c.saturating_mul.result (record { sfits = c.saturating_mul.type_inv }) ∙ c.saturating_mul.ensures)
    ∙ moved_saturated c.args.width c.requires.sized.narrow _
    ∙ ap₂ (λ x y. moved c.args.width (applied arithmetic.Product x y)) (to_z-of_z w128 c.args.a c.ranges.a) (to_z-of_z w128 c.args.b c.ranges.b)
    ∙ sym (ap (λ o. moved c.args.width (applied o c.args.a c.args.b)) c.in-Product.is)
