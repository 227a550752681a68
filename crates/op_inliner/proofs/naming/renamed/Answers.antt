use Rattle.std.proofs.Common.{arith, ◌≡◌, ◌∙◌, ◌+◌, ◌-◌, ap, sym, Option, List, ℕ}
use Rattle.op_inliner.specs.NamesBack.{either_name}
use Rattle.op_inliner.proofs.NamingSteps.{pair_hit, pair_miss}
use Rattle.op_inliner.proofs.naming.renamed.Goals as goal

pub returns-then-same_name : goal.returns-then-same_name
returns-then-same_name c =
    let up : c.loop-i.i ≡ (c.loop-i.i - 1) + 1 = let h = c.loop-i-test.true in omega (arith, h) in
    c.in_ok-new_name.ensures
    ∙ sym (ap (λ (o : Option (List ℕ)). either_name o c.args.name.now) (sym c.loop-i.invariant.same
    ∙ pair_hit c.args.name.now c.args.pairs.now (c.loop-i.i - 1) c.loop-i.i c.index-pairs-i.result up (let h = c.loop-i.invariant.within in let k = c.loop-i-test.true in omega (arith, h, k)) c.index-pairs-i.is (sym c.if-same_name.ensures)))

pub loop-i-preserved : goal.loop-i-preserved
loop-i-preserved c =
    let up : c.loop-i.i ≡ (c.loop-i.i - 1) + 1 = let h = c.loop-i-test.true in omega (arith, h) in record {
      within = let h = c.loop-i.invariant.within in omega (arith, h);
      same = sym (pair_miss c.args.name.now c.args.pairs.now (c.loop-i.i - 1) c.loop-i.i c.index-pairs-i.result up (let h = c.loop-i.invariant.within in let k = c.loop-i-test.true in omega (arith, h, k)) c.index-pairs-i.is (sym c.if-same_name.ensures))
          ∙ c.loop-i.invariant.same;
    }
