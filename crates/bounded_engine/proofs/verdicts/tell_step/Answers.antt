use Rattle.bounded_engine.proofs.Told.{step_told}
use Rattle.bounded_engine.proofs.verdicts.tell_step.Goals as goal

pub returns : goal.returns
returns c =
    step_told c.args.a.now c.args.question.level c.args.question.query c.args.states c.args.attempt c.in_ok-outcome.outcome c.of_step.result
    c.in_ok-outcome.ensures.1 c.of_step.ensures.shown c.of_step.ensures.states c.requires.typed
