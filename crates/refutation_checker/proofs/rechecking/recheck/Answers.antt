use Rattle.std.proofs.lemmas.Result.{IfOk-weaker}
use Rattle.refutation_checker.specs.Rechecking.{IsVerdict, RefutesClosed, WhereAccepted}
use Rattle.refutation_checker.proofs.RecheckLemmas.{verdict_refutes}
use Rattle.refutation_checker.proofs.rechecking.recheck.Goals as goal

pub returns-in-Ok-clause-refuted : goal.returns-in-Ok-clause-refuted
returns-in-Ok-clause-refuted c =
    IfOk-weaker c.check_sections.result (IsVerdict c.as_slice.result.now) (λ r. WhereAccepted r (RefutesClosed c.args.bytes.now))
    (λ r v. verdict_refutes c.args.bytes.now c.as_slice.result.now r (rw c.as_slice.ensures c.in-Ok.ensures.ok) v) c.check_sections.ensures
