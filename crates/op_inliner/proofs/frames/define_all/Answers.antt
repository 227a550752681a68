use Rattle.std.proofs.Common.{arith, refl}
use Rattle.op_inliner.proofs.FrameLemmas.{let_end, let_step}
use Rattle.op_inliner.proofs.frames.define_all.Goals as goal

pub loop-i-preserved : goal.loop-i-preserved
loop-i-preserved c = record {
  first = omega arith;
  second = omega arith;
  third = let k = c.min.ensures in let h = c.loop-i.invariant.third in omega (arith, k, h);
  opening =
      let_step c.args.lets.now c.args.names.now c.args.trees.now c.loop-i.i c.loop-i.first c.min.result c.loop-i.scope c.in_ok-scope.scope c.args.frames.now.items c.loop-i.frames.items c.define.new.frames.items
      c.index-lets-i.result c.index-trees-i.result _ _ c.loop-i-test.true c.if-i-trees.true c.index-lets-i.is c.index-trees-i.is c.min.ensures refl
      c.loop-i.invariant.opening c.in_ok-scope.ensures;
}

pub returns-else-i-trees : goal.returns-else-i-trees
returns-else-i-trees c =
    let_end c.args.lets.now c.args.names.now c.args.trees.now c.loop-i.i c.loop-i.first c.loop-i.scope c.args.frames.now.items c.loop-i.frames.items _ c.if-i-trees.false c.loop-i.invariant.opening
