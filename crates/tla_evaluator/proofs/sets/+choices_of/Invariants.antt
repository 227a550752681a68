use Rattle.std.proofs.Common.{length}
use Rattle.tla_evaluator.proofs.sets.+choices_of.Given as goal

abbrev pub decreases-choices_of : goal.decreases-choices_of
decreases-choices_of l = length l.sets.now
