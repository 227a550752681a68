use Rattle.std.proofs.Common.{length, arith, ◌<◌}
use Rattle.member_choices.proofs.Collected.{edges-more}
use Rattle.member_choices.proofs.edges.edges_to.Goals as goal

pub loop-i-preserved : goal.loop-i-preserved
loop-i-preserved c =
    let i = c.loop-i.i in
    let le : i < length c.args.ids.now = let n = c.requires in let t = c.loop-i-test.true in omega arith in
    record {
      edges = edges-more c.args.cs.now c.args.ids.now i _ _ _ _ c.loop-i-test.true le c.loop-i.invariant.edges
          c.in_ok-push.ensures.items;
    }
