use Rattle.op_inliner.proofs.FrameLemmas.{defs_begun, defs_step}
use Rattle.op_inliner.proofs.frames.define_module.Goals as goal

pub loop-i-init : goal.loop-i-init
loop-i-init c = defs_begun c.args.defs.now c.args.frames.now.items

pub loop-i-preserved : goal.loop-i-preserved
loop-i-preserved c =
    defs_step c.args.defs.now c.args.bodies.now c.loop-i.i c.loop-i.scope c.in_ok-scope.scope c.args.frames.now.items c.loop-i.frames.items c.define.new.frames.items c.index-defs-i.result c.index-bodies-i.result
    _ _ c.requires.bodies c.loop-i-test.true c.index-defs-i.is c.index-bodies-i.is c.as_slice.ensures c.loop-i.invariant c.in_ok-scope.ensures
