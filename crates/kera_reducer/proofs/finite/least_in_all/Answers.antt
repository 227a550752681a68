use Rattle.std.proofs.Common.{◌++◌, take, map, flat_map, false, arith}
use Rattle.kernel_reduction.specs.Infinite.{infinite_in}
use Rattle.kernel_reduction.proofs.Places.{named_all, named_more}
use Rattle.kera_reducer.proofs.finite.least_in_all.Goals as goal

pub loop-inv-preserved : goal.loop-inv-preserved
loop-inv-preserved c = λ ps h.
    named_more ps c.args.invs.now c.loop-inv.inv-index c.inv-item.result c.least_in-first.result c.loop-inv-test.true c.inv-item.is
    (c.least_in-first.ensures (ps ++ flat_map (λ e. infinite_in e false) (map (λ v. v.1) (take c.loop-inv.inv-index c.args.invs.now)))
    (c.loop-inv.invariant ps h))

pub returns : goal.returns
returns c = λ ps h.
    named_all ps c.args.invs.now c.loop-inv.inv-index c.loop-inv.first (let le = c.loop-inv-test.false in omega (arith, le))
    (c.loop-inv.invariant ps h)
