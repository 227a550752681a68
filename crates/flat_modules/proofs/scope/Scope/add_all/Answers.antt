use Rattle.flat_modules.proofs.LearningLemmas.{one_name}
use Rattle.flat_modules.proofs.scope.Scope.add_all.Goals as goal

pub loop-entry-preserved : goal.loop-entry-preserved
loop-entry-preserved c = one_name c.args.self.now c.loop-entry.yielded c.in-Some.entry c.loop-entry.invariant c.in_ok-add_shared.ensures
