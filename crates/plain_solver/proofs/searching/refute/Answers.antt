use Rattle.std.proofs.Common.{[]}
use Rattle.refutation_checker.specs.Follows.{known}
use Rattle.cdcl_solver.proofs.ChainLemmas.{reasons_below}
use Rattle.plain_solver.proofs.SearchLemmas.{refuted_next}
use Rattle.plain_solver.proofs.searching.refute.Goals as goal

pub explained-requires-clause-reasons : goal.explained-requires-clause-reasons
explained-requires-clause-reasons c =
    let s = c.args.search.now in
    rw (c.entries.ensures.same, c.count.ensures.count) (reasons_below (known s.clauses s.steps) [] s.trail.entries c.requires.searching.search.chain)

pub returns : goal.returns
returns c = rw c.in_ok-push.ensures.added
    (refuted_next c.args.search.now c.args.conflict c.in_ok-step.step c.requires.searching c.requires.conflict (rw (c.count.ensures.count, c.entries.ensures.same) at c.in_ok-step.ensures) c.requires.none)
