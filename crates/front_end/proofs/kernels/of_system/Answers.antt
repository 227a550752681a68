use Rattle.front_end.proofs.Answering.{shape_refusal}
use Rattle.front_end.proofs.kernels.of_system.Goals as goal

pub returns-in-Err : goal.returns-in-Err
returns-in-Err c = rw c.of_shape.ensures (λ names whole. shape_refusal c.args.request.now names c.args.system c.in-Err.fault whole c.in-Err.ensures)
