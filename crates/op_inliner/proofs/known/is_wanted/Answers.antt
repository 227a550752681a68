use Rattle.std.proofs.Common.{arith, ◌≡◌, ◌∙◌, ◌+◌, ◌-◌, ap, sym}
use Rattle.op_inliner.specs.Known.{wants}
use Rattle.op_inliner.proofs.KnowSteps.{entry_hit, entry_miss}
use Rattle.op_inliner.proofs.known.is_wanted.Goals as goal

pub returns-then-same_name : goal.returns-then-same_name
returns-then-same_name c =
    let up : c.loop-i.i ≡ (c.loop-i.i - 1) + 1 = let h = c.loop-i-test.true in omega (arith, h) in
    sym (ap (wants c.args.count) (sym c.loop-i.invariant.same
    ∙ entry_hit c.args.name.now c.args.scope.now (c.loop-i.i - 1) c.loop-i.i c.index-scope-i.result up (let h = c.loop-i.invariant.within in let k = c.loop-i-test.true in omega (arith, h, k)) c.index-scope-i.is (sym c.if-same_name.ensures)))

pub loop-i-preserved : goal.loop-i-preserved
loop-i-preserved c =
    let up : c.loop-i.i ≡ (c.loop-i.i - 1) + 1 = let h = c.loop-i-test.true in omega (arith, h) in record {
      within = let h = c.loop-i.invariant.within in omega (arith, h);
      same = sym (entry_miss c.args.name.now c.args.scope.now (c.loop-i.i - 1) c.loop-i.i c.index-scope-i.result up (let h = c.loop-i.invariant.within in let k = c.loop-i-test.true in omega (arith, h, k)) c.index-scope-i.is (sym c.if-same_name.ensures))
          ∙ c.loop-i.invariant.same;
    }
