use Rattle.snowcat_types.specs.declared.gathered.Entry.TheVariants.{Waits}
use Rattle.snowcat_types.proofs.NamedSteps.{entries_more}
use Rattle.snowcat_types.proofs.TreeSteps.{waits_next}
use Rattle.snowcat_types.proofs.trees.push_waits.Goals as goal

pub loop-wait-preserved : goal.loop-wait-preserved
loop-wait-preserved c = record {
  added =
      waits_next c.args.entries.now.items c.loop-wait.entries.items c.push.new.self.items c.loop-wait.yielded c.in-Some.wait c.in_ok-push.ensures.items
      c.loop-wait.invariant.added;
  named = λ h.
      entries_more c.loop-wait.entries.items c.push.new.self.items (Waits c.in-Some.wait) c.in_ok-push.ensures.items (c.loop-wait.invariant.named h) tt;
}
