use Rattle.op_inliner.proofs.NamingSteps.{binds_done, binds_step}
use Rattle.op_inliner.proofs.naming.+push_binds.Goals as goal

pub push_all_binds-loop-e-preserved : goal.push_all_binds-loop-e-preserved
push_all_binds-loop-e-preserved t c = binds_step c.args.trees.now c.loop-e.all.items c.args.all.now.items c.push_binds.new.all.items c.loop-e.e-index c.e-item.result c.loop-e-test.true c.e-item.is c.loop-e.invariant c.in_ok-push_binds.ensures

pub push_binds-returns : goal.push_binds-returns
push_binds-returns t c = binds_done c.args.e.now c.as_slice.result.now c.args.all.now.items c.push_bound.new.all.items c.push_all_binds.new.all.items c.as_slice.ensures c.in_ok-push_bound.ensures c.in_ok-push_all_binds.ensures
