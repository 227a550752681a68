use Rattle.std.proofs.Common.{refl}
use Rattle.cdcl_solver.proofs.SolvingLemmas.{settled}
use Rattle.cdcl_solver.proofs.solver.settle.Goals as goal

pub returns : goal.returns
returns c = settled c.args.solver.now _ c.propagate-found.result (record { clauses = refl; steps = refl; checking = refl }) refl c.requires c.propagate-found.ensures c.entries.ensures.sound
