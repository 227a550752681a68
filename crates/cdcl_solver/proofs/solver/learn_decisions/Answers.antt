use Rattle.std.proofs.Common.{[], arith}
use Rattle.refutation_checker.specs.Follows.{known}
use Rattle.cdcl_solver.proofs.ChainLemmas.{reasons_below}
use Rattle.cdcl_solver.proofs.SolvingLemmas.{decided_learned, explained_below, last_index}
use Rattle.cdcl_solver.proofs.solver.learn_decisions.Goals as goal

pub explained-requires-clause-reasons : goal.explained-requires-clause-reasons
explained-requires-clause-reasons c =
    let s = c.args.solver.now in
    rw (c.entries.ensures.same, c.count.ensures.count) (reasons_below (known s.clauses s.steps) [] s.search.entries c.requires.solving.log.chain)

pub add_step-requires-clause-names : goal.add_step-requires-clause-names
add_step-requires-clause-names c =
    let s = c.args.solver.now in
    explained_below s.search.vars c.count.result s.search.entries c.args.conflict c.in_ok-step.step c.entries.ensures.sound (rw c.entries.ensures.same at c.in_ok-step.ensures)

pub returns : goal.returns
returns c =
    let s = c.args.solver.now in
    decided_learned s c.add_step.new.solver c.args.conflict c.in_ok-step.step _ c.requires.solving c.requires.conflict c.entries.ensures.sound
    (rw (c.count.ensures.count, c.entries.ensures.same) at c.in_ok-step.ensures) (last_index s.levels.items c.len-level.result c.requires.some (let len = c.len-level.ensures in let size = s.levels.ok.0 in omega arith)) c.in_ok-add_step.ensures
