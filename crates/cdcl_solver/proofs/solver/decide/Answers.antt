use Rattle.std.proofs.Common.{refl}
use Rattle.cdcl_solver.proofs.DecidingLemmas.{undecided_free}
use Rattle.cdcl_solver.proofs.SolvingLemmas.{decided_next}
use Rattle.cdcl_solver.proofs.solver.decide.Goals as goal

pub push-requires-2-clause-free : goal.push-requires-2-clause-free
push-requires-2-clause-free c =
    let s = c.args.solver.now in
    undecided_free s.search.vars s.search.entries c.args.l c.requires.undecided

pub returns : goal.returns
returns c =
    decided_next c.args.solver.now _ c.args.l (record { clauses = refl; steps = refl; checking = refl }) (rw c.entries-place.ensures.same at c.in_ok-push.ensures.items) c.requires.solving c.push-2.ensures
    c.requires.opened c.requires.undecided
