use Rattle.transition_splitter.specs.inner.Routes.{ways_by}
use Rattle.transition_splitter.proofs.WalkSteps.{each_after_more}
use Rattle.transition_splitter.proofs.routes.each_after.Goals as goal

pub loop-first-preserved : goal.loop-first-preserved
loop-first-preserved c =
    each_after_more c.loop-first.yielded c.in-Some.first (ways_by c.args.seconds.now) (ways_by c.loop-first.made.items)
    (ways_by c.push_after.new.made.items) c.loop-first.invariant c.in_ok-push_after.ensures
