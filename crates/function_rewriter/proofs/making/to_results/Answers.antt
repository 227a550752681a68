use Rattle.std.proofs.Common.{◌<◌, length, arith}
use Rattle.function_rewriter.proofs.Makes.{results-pushed}
use Rattle.function_rewriter.proofs.making.to_results.Goals as goal

pub loop-i-preserved : goal.loop-i-preserved
loop-i-preserved c =
    let lt : c.loop-i.i < length c.args.edges.now = omega arith in
    let le : c.loop-i.i < length c.args.results.now = omega arith in
    results-pushed c.args.edges.now c.args.results.now c.loop-i.i _ _ _ _ lt le c.loop-i.invariant c.in_ok-push.ensures.items
