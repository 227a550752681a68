use Rattle.std.proofs.Common.{[], refl}
use Rattle.cdcl_solver.proofs.ChainLemmas.{reasons_below}
use Rattle.refutation_checker.specs.Follows.{known}
use Rattle.cdcl_solver.proofs.SolvingLemmas.{refuted_next}
use Rattle.cdcl_solver.proofs.solver.refute.Goals as goal

pub explained-requires-clause-reasons : goal.explained-requires-clause-reasons
explained-requires-clause-reasons c =
    let s = c.args.solver.now in
    rw (c.entries.ensures.same, c.count.ensures.count) (reasons_below (known s.clauses s.steps) [] s.search.entries c.requires.solving.log.chain)

pub returns : goal.returns
returns c =
    refuted_next c.args.solver.now _ c.args.conflict c.in_ok-step.step c.requires.solving c.requires.conflict (rw (c.count.ensures.count, c.entries.ensures.same) at c.in_ok-step.ensures)
    c.requires.none refl refl c.in_ok-push.ensures.added
