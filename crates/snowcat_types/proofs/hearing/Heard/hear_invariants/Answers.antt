use Rattle.std.proofs.Common.{arith}
use Rattle.snowcat_rows.specs.Views.{known_by}
use Rattle.snowcat_types.proofs.HearingSteps.{invariants_done, invariants_heard}
use Rattle.snowcat_types.proofs.hearing.Heard.hear_invariants.Goals as goal

pub loop-inv-preserved : goal.loop-inv-preserved
loop-inv-preserved c =
    invariants_heard (known_by c.args.aliases.now) c.args.self.now c.loop-inv.self c.hear_tree.new.self c.args.invs.now c.loop-inv.inv-index
    c.inv-item.result
    c.loop-inv-test.true c.inv-item.is c.loop-inv.invariant c.in_ok-hear_tree.ensures

pub returns : goal.returns
returns c =
    invariants_done (known_by c.args.aliases.now) c.args.self.now c.loop-inv.self c.args.invs.now c.loop-inv.inv-index
    (let h = c.loop-inv-test.false in omega (arith, h)) c.loop-inv.invariant
