use Rattle.std.proofs.Common.{arith}
use Rattle.op_inliner.proofs.FrameLemmas.{pass_end, pass_step}
use Rattle.op_inliner.proofs.frames.pass.Goals as goal

pub loop-i-preserved : goal.loop-i-preserved
loop-i-preserved c = record {
  first = omega arith;
  second = omega arith;
  opening =
      pass_step c.args.params.now c.args.arguments.now c.loop-i.i c.args.here c.loop-i.scope c.in_ok-scope.scope c.args.frames.now.items c.loop-i.frames.items c.define.new.frames.items
      c.index-params-i.result c.index-arguments-i.result _ c.loop-i-test.true c.if-i-arguments.true c.index-params-i.is c.index-arguments-i.is c.requires.here
      c.loop-i.invariant.opening c.in_ok-scope.ensures;
}

pub returns-else-i-arguments : goal.returns-else-i-arguments
returns-else-i-arguments c =
    pass_end c.args.params.now c.args.arguments.now c.loop-i.i c.args.here c.loop-i.scope c.args.frames.now.items c.loop-i.frames.items _ c.if-i-arguments.false c.loop-i.invariant.opening
