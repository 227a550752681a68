use Rattle.snowcat_types.proofs.PartSteps.{next_invariant}
use Rattle.snowcat_types.proofs.trees.Gathering.add_invariants.Goals as goal

pub loop-inv-preserved : goal.loop-inv-preserved
loop-inv-preserved c = record {
  added =
      next_invariant c.args.self.now c.loop-inv.self c.add_part.new.self c.args.invs.now c.loop-inv.inv-index c.inv-item.result c.loop-inv-test.true
      c.inv-item.is c.loop-inv.invariant.added c.in_ok-add_part.ensures.added;
  named = λ h. c.in_ok-add_part.ensures.named (c.loop-inv.invariant.named h);
}
