use Rattle.cdcl_solver.proofs.DecidingLemmas.{decided_at, decided_more}
use Rattle.cdcl_solver.proofs.deciding.first_undecided.Goals as goal

pub loop-v-preserved : goal.loop-v-preserved
loop-v-preserved c =
    let es = c.args.search.now.entries in
    decided_more es c.loop-v.v c.loop-v.invariant (decided_at es c.loop-v.v c.place.result c.place.ensures c.if-is_none.ensures)
