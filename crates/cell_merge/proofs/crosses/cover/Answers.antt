use Rattle.std.proofs.Common.{◌<◌, length, arith}
use Rattle.std.proofs.lemmas.List.{get_or_default}
use Rattle.sat_formula.proofs.Extension.{Grows-trans}
use Rattle.cell_merge.proofs.Along.{covers-more}
use Rattle.cell_merge.proofs.crosses.cover.Goals as goal

pub loop-i-preserved : goal.loop-i-preserved
loop-i-preserved c =
    let i = c.loop-i.invariant in
    let lt : c.loop-i.i < length c.args.covered.now = omega arith in
    let le : c.loop-i.i < length c.args.row.now = let n = c.requires.lists.same in omega arith in
    record {
      grows = Grows-trans _ _ _ i.grows (Grows-trans _ _ _ c.in_ok-both.ensures.grows c.in_ok-one.ensures.grows);
      covers = covers-more _ _ _ _ c.args.row.now c.args.covered.now _ _ c.loop-i.i _ _ _ _ le lt i.covers c.in_ok-both.ensures.grows c.in_ok-one.ensures.grows
          (get_or_default _ _ _ _ le) (get_or_default _ _ _ _ lt) c.in_ok-both.ensures.value c.in_ok-one.ensures.value c.in_ok-push.ensures.items;
    }
