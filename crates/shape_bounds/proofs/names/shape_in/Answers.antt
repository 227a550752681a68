use Rattle.std.proofs.Common.{◌∙◌}
use Rattle.shape_bounds.proofs.Bounds.{found_at, nothing_at, past_end}
use Rattle.shape_bounds.proofs.Means.{mean-Empty}
use Rattle.shape_bounds.proofs.Rowed.{ok_copy}
use Rattle.shape_bounds.proofs.names.shape_in.Goals as goal

pub returns-then-i-shapes : goal.returns-then-i-shapes
returns-then-i-shapes c = mean-Empty ∙ past_end c.args.shapes.now c.args.i c.if-i-shapes.true

pub returns-in-Some : goal.returns-in-Some
returns-in-Some c = ok_copy c.copy_shape.result _ _ (found_at c.args.shapes.now c.args.i c.index-shapes-i.result c.in-Some.shape c.if-i-shapes.false c.index-shapes-i.is c.in-Some.is) c.copy_shape.ensures

pub returns-in-None : goal.returns-in-None
returns-in-None c = mean-Empty ∙ nothing_at c.args.shapes.now c.args.i c.index-shapes-i.result c.if-i-shapes.false c.index-shapes-i.is c.in-None.is
