use Rattle.std.proofs.Common.{◌∙◌, ap, sym, reverse, option_copied, arith}
use Rattle.kernel_reduction.specs.Rows.{type_of}
use Rattle.kera_reducer.specs.inner.Excepts.{rest_of}
use Rattle.kera_reducer.proofs.ExceptSteps.{rest_step, rest_types_none}
use Rattle.kera_reducer.proofs.excepts.rest_types.Goals as goal

pub loop-left-init : goal.loop-left-init
loop-left-init c = record {
  within = omega arith;
  types = ap reverse c.new-types.ensures.items ∙ rest_types_none c.args.operands.now;
}

pub loop-left-preserved : goal.loop-left-preserved
loop-left-preserved c = record {
  within = let le = c.loop-left.invariant.within in omega (arith, le);
  types =
      rest_step c.args.operands.now c.loop-left.left c.index-operands-left.result c.loop-left.types.items c.push.new.self.items
      c.deref.result.now (option_copied c.last.result) c.in_ok-ty.ty c.loop-left-test.true c.loop-left.invariant.within
      c.index-operands-left.is c.loop-left.invariant.types c.deref.ensures.value c.last.ensures.value
      (c.in_ok-ty.ensures ∙ ap (λ k. rest_of (type_of k) (option_copied c.last.result)) (sym c.index-operands-left.is))
      c.in_ok-push.ensures.items;
}
