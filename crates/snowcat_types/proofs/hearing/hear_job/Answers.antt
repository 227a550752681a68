use Rattle.std.proofs.Common.{refl, []}
use Rattle.snowcat_types.proofs.HearingSteps.{nothing_heard}
use Rattle.snowcat_types.proofs.hearing.hear_job.Goals as goal

pub returns : goal.returns
returns c = λ al ds h l. c.in_ok-hear_job.ensures.hears al ds [] h (nothing_heard al ds c.new.result.items c.args.worst c.args.worst
    c.new.ensures.items refl l)
