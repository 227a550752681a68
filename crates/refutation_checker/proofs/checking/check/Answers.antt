use Rattle.std.proofs.Common.{arith, below_more}
use Rattle.refutation_checker.proofs.FollowLemmas.{verdict_yes}
use Rattle.refutation_checker.proofs.Soundness.{Refutes-sound}
use Rattle.std.proofs.lemmas.List.{get_or_read}
use Rattle.refutation_checker.proofs.checking.check.Goals as goal

pub loop-i-preserved : goal.loop-i-preserved
loop-i-preserved c = record {
  empty = c.in_ok-follows.ensures.trail;
  follow = below_more _ _ c.loop-i.invariant.follow
      (λ d. rw (← get_or_read _ _ _ c.loop-i-test.true c.index-steps-i.is d) (c.in_ok-follows.ensures.exact.0 c.if-not-branch.false));
}

pub returns-clause-refuted : goal.returns-clause-refuted
returns-clause-refuted c = λ said a sat.
    Refutes-sound c.clauses-clauses.result.now c.as_slice-steps.result.now (λ k lt. c.loop-i.invariant.follow k (omega arith)) (verdict_yes _ _ c.verdict.ensures said) a (rw c.clauses-clauses.ensures sat)
