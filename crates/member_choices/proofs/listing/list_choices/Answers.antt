use Rattle.sat_formula.proofs.Extension.{Grows-refl, Grows-trans}
use Rattle.member_choices.proofs.MoreChoices.{lists-all, lists-start, lists-turn}
use Rattle.member_choices.proofs.listing.list_choices.Goals as goal

pub loop-i-init : goal.loop-i-init
loop-i-init c = record {
  grows = Grows-refl _;
  lists = lists-start _ _ c.args.sets.now _ (c.in_ok-choices.ensures c.args.arena.now);
}

pub loop-i-preserved : goal.loop-i-preserved
loop-i-preserved c =
    let i = c.loop-i.invariant in
    record {
      grows = Grows-trans _ _ _ i.grows c.in_ok-more.ensures.grows;
      lists = lists-turn _ _ _ c.args.sets.now c.loop-i.i
          (record { index = 0 }) _ _ c.loop-i-test.true c.in_ok-more.ensures.grows i.lists
          (rw c.as_slice.ensures.value at c.in_ok-more.ensures.adds);
    }

pub returns-clause-lists : goal.returns-clause-lists
returns-clause-lists c = lists-all _ _ c.args.sets.now c.loop-i.i _ c.loop-i-test.false c.loop-i.invariant.lists
