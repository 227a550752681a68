use Rattle.front_end.proofs.Answering.{inline_refusal, judged}
use Rattle.front_end.proofs.accepting.of_known.Goals as goal

pub returns-in-Ok : goal.returns-in-Ok
returns-in-Ok c = λ held before now one stay.
    judged held before now c.args.request.now c.args.flat one stay c.in-Ok.job (record { known = c.requires.known; gives = c.in-Ok.ensures })
    c.of_job.result c.of_job.ensures

pub returns-in-Err : goal.returns-in-Err
returns-in-Err c = λ held before now one stay.
    rw (c.at_module.ensures, c.of_inline.ensures)
    (inline_refusal held before now c.args.request.now c.args.flat one stay c.in-Err.fault c.requires.known c.in-Err.ensures)
