use Rattle.front_end.proofs.Answering.{assign_refusal}
use Rattle.front_end.proofs.Splits.{first_assign, of_system}
use Rattle.front_end.proofs.kernels.of_paths.Goals as goal

pub returns-in-Ok : goal.returns-in-Ok
returns-in-Ok c =
    of_system c.args.names.now c.args.ker c.args.paths.now c.requires.split c.args.request.now c.in-Ok.assigned c.of_system.result c.in-Ok.ensures
    c.of_system.ensures

pub returns-in-Err : goal.returns-in-Err
returns-in-Err c =
    rw c.of_assign.ensures (assign_refusal c.args.request.now c.args.names.now c.args.ker c.in-Err.fault c.requires.split.few
    (first_assign c.args.names.now c.args.ker c.args.paths.now c.requires.split c.in-Err.fault c.in-Err.ensures))
