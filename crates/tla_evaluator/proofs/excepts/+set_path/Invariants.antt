use Rattle.std.proofs.Common.{length}
use Rattle.tla_evaluator.proofs.excepts.+set_path.Given as goal

abbrev pub decreases-set_path : goal.decreases-set_path
decreases-set_path l = length l.path.now
