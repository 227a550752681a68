use Rattle.std.proofs.Common.{◌≡◌, drop}
use Rattle.tla_evaluator.proofs.Words.{Normal, at_path}
use Rattle.tla_evaluator.proofs.excepts.at_path.Given as goal

abbrev pub invariant-loop-argument : goal.invariant-loop-argument
invariant-loop-argument l = record {
  normal : Normal l.value;
  same : at_path l.f l.path ≡ at_path l.value (drop l.argument-index l.path);
}
