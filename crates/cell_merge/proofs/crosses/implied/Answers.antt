use Rattle.std.proofs.Common.{◌<◌, length, arith}
use Rattle.std.proofs.lemmas.List.{get_or_default}
use Rattle.sat_formula.proofs.Extension.{Grows-trans}
use Rattle.cell_merge.proofs.Edges.{negated-value}
use Rattle.cell_merge.proofs.Along.{implied-more}
use Rattle.cell_merge.proofs.crosses.implied.Goals as goal

pub loop-i-preserved : goal.loop-i-preserved
loop-i-preserved c =
    let i = c.loop-i.invariant in
    let lt : c.loop-i.i < length c.args.xs.now = omega arith in
    let le : c.loop-i.i < length c.args.tests.now = let n = c.requires.lists.same in omega arith in
    record {
      grows = Grows-trans _ _ _ i.grows c.in_ok-holds.ensures.grows;
      implied = implied-more _ _ c.args.xs.now c.args.tests.now _ _ c.loop-i.i _ _ _ _ lt le i.implied c.in_ok-holds.ensures.grows
          (get_or_default _ _ _ _ lt) (get_or_default _ _ _ _ le) (λ a. negated-value _ _ a c.negated.ensures) c.in_ok-holds.ensures.value c.in_ok-push.ensures.items;
    }
