use Rattle.std.proofs.Common.{[]}
use Rattle.front_end.proofs.Answering.{want}
use Rattle.front_end.proofs.accepting.of_flat.Goals as goal

pub returns-in-Err : goal.returns-in-Err
returns-in-Err c = λ held before now one stay.
    rw c.at_module.ensures (want held before now c.args.request.now c.args.flat one stay c.args.flat.files [] c.in-Err.fail)
