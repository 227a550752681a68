use Rattle.std.proofs.Common.{ap, ◌∙◌}
use Rattle.kernel_shapes.specs.Codes.{mean}
use Rattle.shape_bounds.proofs.Means.{mean-Tup, mean-Rec}
use Rattle.shape_bounds.proofs.Places.{counted_items, counted_fields}
use Rattle.shape_bounds.proofs.parts.count.Goals as goal

pub returns-in-Tup : goal.returns-in-Tup
returns-in-Tup c = counted_items c.args.a.now c.in-Tup.items c.len.result (ap mean c.in-Tup.is ∙ mean-Tup c.in-Tup.items) c.len.ensures c.len.type_inv

pub returns-in-Rec : goal.returns-in-Rec
returns-in-Rec c = counted_fields c.args.a.now c.in-Rec.fields _ c.len-in-Rec.result (ap mean c.in-Rec.is ∙ mean-Rec c.in-Rec.fields) c.len-in-Rec.ensures c.len-in-Rec.type_inv
