use Rattle.sat_formula.proofs.Extension.{Grows-refl, Grows-trans}
use Rattle.cell_merge.proofs.Fronts.{guards-none, guards-push}
use Rattle.cell_merge.proofs.arrows.guard_arrows.Goals as goal

pub loop-m-init : goal.loop-m-init
loop-m-init c = record {
  grows = Grows-refl _;
  guards = guards-none _ _ _ _ c.requires.out_named;
}

pub loop-m-preserved : goal.loop-m-preserved
loop-m-preserved c =
    let i = c.loop-m.invariant in
    let r = c.in_ok-both.ensures in
    record {
      grows = Grows-trans _ _ _ i.grows r.grows;
      guards = guards-push _ _ c.args.l c.args.arrows.now c.loop-m.m-index _ _ _ _ _ c.loop-m-test.true i.guards r.grows r.value c.in_ok-push.ensures.items;
    }
