use Rattle.std.proofs.Common.{◌∙◌}
use Rattle.op_inliner.proofs.SumSteps.{add_first_done, add_second_done}
use Rattle.op_inliner.proofs.sums.add_factors.Goals as goal
use Rattle.op_inliner.proofs.sums.add_factors.Goals.{then-loop-i-test+else-i-vs, else-loop-i-test}

pub returns : goal.returns
returns c = elim c.loop-i-test.branch [
  | then-loop-i-test+else-i-vs w ↦ c.from_vec.ensures ∙ rw (c.in_ok-extend_from_slice-2.ensures.items, c.in_ok-extend_from_slice.ensures.items)
      (add_second_done c.args.us.now c.args.vs.now c.loop-i.i c.loop-i.sums.items c.loop-i.invariant w.if-i-vs.false)
  | else-loop-i-test w ↦ c.from_vec.ensures ∙ rw (c.in_ok-extend_from_slice-2.ensures.items, c.in_ok-extend_from_slice.ensures.items)
      (add_first_done c.args.us.now c.args.vs.now c.loop-i.i c.loop-i.sums.items c.loop-i.invariant w.loop-i-test.false)
]
