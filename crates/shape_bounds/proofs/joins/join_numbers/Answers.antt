use Rattle.std.proofs.Common.{ap₂, ◌∙◌, sym, arith}
use Rattle.std.proofs.lemmas.Int.{to_z-of_z}
use mir.Syntax.{w128}
use Rattle.kernel_shapes.specs.Shape.{Num}
use Rattle.shape_bounds.proofs.Means.{mean-Num}
use Rattle.shape_bounds.proofs.Ends.{join_both, join_other}
use Rattle.shape_bounds.proofs.joins.join_numbers.Goals as goal

pub returns-in-Some : goal.returns-in-Some
returns-in-Some c = grind (arith, to_z-of_z, mean-Num, join_both)

pub returns-in-None : goal.returns-in-None
returns-in-None c =
    mean-Num _ _ ∙ ap₂ Num (to_z-of_z w128 c.args.low c.ranges.low) (to_z-of_z w128 c.args.high c.ranges.high)
    ∙ sym (join_other c.args.low c.args.high _ c.in-None.ensures)
