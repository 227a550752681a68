use Rattle.std.proofs.Common.{arith, ◌≡◌, ◌++◌, ◌∷◌, map}
use Rattle.tla_evaluator.proofs.Words.{common_steps}
use Rattle.tla_evaluator.proofs.ListLemmas.{sublists_more}
use Rattle.tla_evaluator.proofs.sets.sublists.Goals as goal

pub loop-i-preserved : goal.loop-i-preserved
loop-i-preserved c =
    let all : c.append.new.self.items ≡ c.loop-i.lists.items ++ map (λ ys. c.index-items-i.result ∷ ys) c.loop-i.lists.items = grind (arith, common_steps) in
    record {
      within = omega arith;
      same = sublists_more c.args.items.now c.loop-i.i _ _ _ c.loop-i-test.true c.loop-i.invariant.within c.index-items-i.is c.loop-i.invariant.same all;
    }
