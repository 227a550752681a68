use Rattle.std.proofs.Common.{◌≡◌, Some, drop, map, take}
use Rattle.tla_evaluator.proofs.Words.{All, IsYes, first_not_yes, no_scope, val}
use Rattle.tla_evaluator.proofs.tops.invariant.Given as goal

abbrev pub invariant-loop-i : goal.invariant-loop-i
invariant-loop-i l = record {
  before : All (λ e. IsYes (val (Some l.width) e.1 no_scope l.s l.s)) (take l.i l.job.invs);
  same : first_not_yes (map (λ e. val (Some l.width) e.1 no_scope l.s l.s) (drop l.i l.job.invs))
      ≡ first_not_yes (map (λ e. val (Some l.width) e.1 no_scope l.s l.s) l.job.invs);
}
