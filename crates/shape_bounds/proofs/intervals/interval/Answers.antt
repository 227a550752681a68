use Rattle.std.proofs.Common.{ap, ap₂, ◌∙◌}
use Rattle.std.proofs.lemmas.Int.{to_z-of_z}
use mir.Syntax.{w128}
use Rattle.kernel_shapes.specs.Shape.{Num, moved}
use Rattle.shape_bounds.proofs.Means.{mean-Num}
use Rattle.shape_bounds.proofs.intervals.interval.Goals as goal

pub returns : goal.returns
returns c =
    let low = to_z-of_z w128 c.moved.result (record { sfits = c.moved.type_inv }) ∙ c.moved.ensures in
    let high = to_z-of_z w128 c.moved-2.result (record { sfits = c.moved-2.type_inv }) ∙ c.moved-2.ensures in
    mean-Num _ _
    ∙ ap₂ Num (low ∙ ap (moved c.args.width) (to_z-of_z w128 c.args.low c.ranges.low))
    (high ∙ ap (moved c.args.width) (to_z-of_z w128 c.args.high c.ranges.high))
