use Rattle.std.proofs.Common.{length, ◌<◌, arith}
use Rattle.member_choices.proofs.Graphed.{arrows-more}
use Rattle.member_choices.proofs.edges.arrows_to.Goals as goal

pub loop-i-preserved : goal.loop-i-preserved
loop-i-preserved c =
    let i = c.loop-i.i in
    let t = c.loop-i-test.true in
    let le : i < length c.args.arguments.now = let n = c.requires.arguments in omega arith in
    let lf : i < length c.args.results.now = let n = c.requires.results in omega arith in
    record {
      arrows = arrows-more c.args.cs.now c.args.arguments.now c.args.results.now i _ _ _ _ _ t le lf
          c.loop-i.invariant.arrows c.in_ok-push.ensures.items;
    }
