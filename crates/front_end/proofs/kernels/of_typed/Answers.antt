use Rattle.front_end.proofs.Answering.{ker_refusal, of_kernel}
use Rattle.front_end.proofs.kernels.of_typed.Goals as goal

pub returns-in-Ok : goal.returns-in-Ok
returns-in-Ok c =
    of_kernel c.args.request.now c.args.job.now c.args.typed.now c.in-Ok.ker c.of_kernel.result (record {
      finite = c.in-Ok.ensures.refusal;
      kernel = c.in-Ok.ensures.kernel;
      built = c.in-Ok.ensures.built;
      sound = c.in-Ok.ensures.sound (c.typings_meet_rows.ensures c.args.job.now c.args.typed.now c.requires.bound c.requires.typed);
    }) c.of_kernel.ensures

pub returns-in-Err : goal.returns-in-Err
returns-in-Err c = rw c.of_ker.ensures (ker_refusal c.args.request.now c.args.job.now c.args.typed.now c.in-Err.fault c.in-Err.ensures.refusal)
