use Rattle.std.proofs.Common.{◌++◌, take, arith}
use Rattle.kernel_reduction.proofs.Places.{all, init, so_far, step}
use Rattle.kera_reducer.proofs.finite.+finite.Goals as goal

pub loop-i-init : goal.loop-i-init
loop-i-init t c = λ ps h. init ps c.args.e.now c.args.form c.least_here-first.result (c.least_here-first.ensures ps h)

pub loop-i-preserved : goal.loop-i-preserved
loop-i-preserved t c = λ ps h.
    step ps c.args.e.now c.args.form c.form_child.result c.as_slice-trees.result.now c.loop-i.i c.index-trees-i.result c.least_in-first.result
    c.loop-i-test.true c.index-trees-i.is c.form_child.ensures
    (c.least_in-first.ensures (ps ++ so_far c.args.e.now c.args.form (take c.loop-i.i c.as_slice-trees.result.now)) (c.loop-i.invariant ps h))

pub returns : goal.returns
returns t c = λ ps h.
    all ps c.args.e.now c.args.form c.as_slice-trees.result.now c.loop-i.i c.loop-i.first c.as_slice-trees.ensures
    (let le = c.loop-i-test.false in omega (arith, le)) (c.loop-i.invariant ps h)
