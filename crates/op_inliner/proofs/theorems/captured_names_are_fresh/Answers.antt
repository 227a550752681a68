use Rattle.op_inliner.proofs.GivenBack.{fresh_name}
use Rattle.op_inliner.proofs.theorems.captured_names_are_fresh.Goals as goal

pub returns : goal.returns
returns c = λ there taken x e. fresh_name there taken x e
