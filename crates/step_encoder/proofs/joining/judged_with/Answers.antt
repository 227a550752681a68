use Rattle.step_encoder.proofs.Judged.{judged_made}
use Rattle.step_encoder.proofs.joining.judged_with.Goals as goal

pub returns-clause-judged : goal.returns-clause-judged
returns-clause-judged c =
    judged_made c.judged.new.f c.and.new.self c.and-2.new.self c.args.xs.now c.args.run
    (c.in_ok-not_true.not_true, c.in_ok-not_true.big) c.in_ok-run_not_true.run_not_true c.in_ok-run_big.run_big
    c.in_ok-run_not_true.ensures.grows c.in_ok-run_big.ensures.grows c.in_ok-not_true.ensures.judged
    c.in_ok-run_not_true.ensures.value c.in_ok-run_big.ensures.value
