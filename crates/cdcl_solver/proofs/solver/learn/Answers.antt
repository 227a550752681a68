use Rattle.cdcl_solver.proofs.SolvingLemmas.{learned_from}
use Rattle.cdcl_solver.proofs.solver.learn.Goals as goal

pub learn_decisions-requires-clause-conflict : goal.learn_decisions-requires-clause-conflict
learn_decisions-requires-clause-conflict c =
    let same = rw c.if-jumped.false at c.in_ok-jumped.ensures in
    rw same c.requires.conflict

pub returns : goal.returns
returns c =
    let same = rw c.if-jumped.false at c.in_ok-jumped.ensures in
    learned_from c.args.solver.now c.jump.new.solver c.learn_decisions.new.solver same c.in_ok-learn_decisions.ensures
