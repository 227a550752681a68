use Rattle.std.proofs.Common.{length}
use Rattle.snowcat_types.proofs.NamedSteps.{asked_more, declared_at_named}
use Rattle.snowcat_types.proofs.PartSteps.{declares_more}
use Rattle.snowcat_types.proofs.gathering.declared_names.Goals as goal

pub loop-i-preserved : goal.loop-i-preserved
loop-i-preserved c = record {
  asked =
      declares_more (length c.args.declared.now) c.loop-i.i c.args.declared.now c.index-declared-i.result c.loop-i.asked.items c.push.new.self.items c.in_ok-one.one
      c.loop-i.next c.in_ok-next-2.next c.loop-i-test.true c.index-declared-i.is c.loop-i.invariant.asked c.in_ok-one.ensures.asked c.in_ok-push.ensures.items
      c.in_ok-next-2.ensures;
  named = λ h.
      asked_more c.loop-i.asked.items c.push.new.self.items c.in_ok-one.one c.in_ok-push.ensures.items (c.loop-i.invariant.named h)
      (c.in_ok-one.ensures.named (declared_at_named c.args.declared.now c.loop-i.i c.index-declared-i.result c.loop-i-test.true c.index-declared-i.is h));
}
