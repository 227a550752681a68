use Rattle.std.proofs.Common.{◌≤◌, ◌<◌, ◌^◌, Fits, arith, rules, w32}
use Rattle.std.proofs.Math.Facts.{Fits-lt-pow}
use Rattle.shape_bounds.specs.Kept.{greatest_kept}
use Rattle.shape_bounds.proofs.TypedLevel.{typed_made, typed_more}
use Rattle.shape_bounds.proofs.typed_start.typed_names.Goals as goal

pub loop-i-preserved : goal.loop-i-preserved
loop-i-preserved c =
    let f : Fits w32 c.args.bounds.size = search rules in
    let g : c.args.bounds.size < 2 ^ 32 = Fits-lt-pow f in
    let small : c.args.bounds.size ≤ greatest_kept = omega (arith, g) in
    typed_more c.args.bounds c.as_slice-fixed.result.now c.args.constants.now c.as_slice-types.result.now c.loop-i.i c.index-constants-i.result c.index-types-i.result c.in_ok-shape.shape
    c.loop-i.shapes.items c.push.new.self.items small c.loop-i.invariant c.loop-i-test.true c.if-fixed-constants.false c.if-fixed-types.false c.index-constants-i.is c.index-types-i.is
    c.in_ok-shape.ensures c.in_ok-push.ensures.items

pub returns : goal.returns
returns c =
    typed_made c.args.bounds c.as_slice-fixed.result.now c.args.job.now.fixed c.args.constants.now c.as_slice-types.result.now c.args.job.now.names c.loop-i.i c.loop-i.shapes.items c.from_vec.result
    c.loop-i.invariant c.loop-i-test.false c.as_slice-fixed.ensures c.as_slice-types.ensures c.from_vec.ensures
