use Rattle.std.proofs.Common.{refl}
use Rattle.cdcl_solver.proofs.SolvingLemmas.{complete, proposed, decided_from, advanced_decided}
use Rattle.cdcl_solver.proofs.solver.proceed.Goals as goal

pub decide-requires-clause-solving : goal.decide-requires-clause-solving
decide-requires-clause-solving c = proposed c.args.solver.now _ c.requires.solving

pub returns-in_default : goal.returns-in_default
returns-in_default c = λ budget unspent. (
  record { clauses = refl; vars = refl },
  proposed c.args.solver.now _ c.requires.solving,
  complete c.args.solver.now c.requires.found c.in_default.ensures,
)

pub returns : goal.returns
returns c = λ budget unspent.
    let decided = decided_from c.args.solver.now c.decide.new.solver _ c.in_ok-decide.ensures in (
      advanced_decided c.args.solver.now c.decide.new.solver c.settle.new.solver c.settle.result decided c.settle.ensures,
      rw (c.settle.ensures.steps, decided.steps) unspent,
    )
