use Rattle.front_end.proofs.Answering.{type_refusal, typable}
use Rattle.front_end.proofs.kernels.make.Goals as goal

pub returns-in-Err : goal.returns-in-Err
returns-in-Err c =
    rw c.of_type.ensures (type_refusal c.args.request.now c.args.job.now c.in-Err.fault
    (typable c.args.job.now c.in_ok-is_typable.field-0 c.in_ok-is_typable.ensures c.if-not-branch.false) c.in-Err.ensures.answer)
