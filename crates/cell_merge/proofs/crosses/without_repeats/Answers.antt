use Rattle.std.proofs.Common.{rules}
use Rattle.std.proofs.lemmas.List.{get_or_default}
use Rattle.cell_merge.proofs.Along.{both-one, both-same}
use Rattle.cell_merge.proofs.crosses.without_repeats.Goals as goal
use Rattle.cell_merge.proofs.crosses.without_repeats.Goals.{then-not-has+in_ok-push, else-not-has}

pub loop-y-preserved : goal.loop-y-preserved
loop-y-preserved c = elim c.if-not-has.branch [
  | then-not-has+in_ok-push w ↦ rw w.all-is (both-one c.args.xs.now c.args.ys.now _ _ c.loop-y.y-index _ c.loop-y-test.true c.loop-y.invariant (get_or_default _ _ _ _ c.loop-y-test.true) w.in_ok-push.ensures.items)
  | else-not-has w ↦ rw w.all-is (both-same c.args.xs.now c.args.ys.now _ c.loop-y.y-index _ c.loop-y-test.true c.loop-y.invariant (get_or_default _ _ _ _ c.loop-y-test.true) (c.has.ensures (search rules)))
]
