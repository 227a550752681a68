use Rattle.front_end.proofs.Answering.{split_refusal}
use Rattle.front_end.proofs.kernels.of_kernel.Goals as goal

pub returns-in-Err : goal.returns-in-Err
returns-in-Err c =
    rw c.of_split.ensures (split_refusal c.args.request.now c.args.names.now c.args.ker c.in-Err.fault c.in-Err.ensures)
