use Rattle.snowcat_rows.specs.Views.{known_by}
use Rattle.snowcat_types.proofs.HearingSteps.{job_heard}
use Rattle.snowcat_types.proofs.hearing.Heard.hear_job.Goals as goal

pub returns : goal.returns
returns c =
    job_heard (known_by c.args.aliases.now) c.args.self.now _ _ _ _
    c.hear_invariants.new.self c.args.job.now c.in_ok-cinit.ensures c.in_ok-assume.ensures c.in_ok-init.ensures c.in_ok-next.ensures
    c.as_slice.result.now c.as_slice.ensures c.in_ok-hear_invariants.ensures
