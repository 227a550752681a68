use Rattle.std.proofs.Common.{◌<◌, length, arith}
use Rattle.set_rewriter.proofs.Gathering.{images-pushed}
use Rattle.set_rewriter.proofs.unions.with_images.Goals as goal

pub loop-i-preserved : goal.loop-i-preserved
loop-i-preserved c =
    let lt : c.loop-i.i < length c.args.edges.now = omega arith in
    let le : c.loop-i.i < length c.args.images.now = omega arith in
    images-pushed c.args.edges.now c.args.images.now c.loop-i.i _ _ _ _ lt le c.loop-i.invariant c.in_ok-push.ensures.items
