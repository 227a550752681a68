use Rattle.sat_formula.proofs.Extension.{Grows-trans}
use Rattle.std.proofs.Common.{◌∙◌}
use Rattle.member_choices.proofs.MoreChoices.{front-passed, front-push}
use Rattle.member_choices.proofs.listing.add_front.Goals as goal

pub loop-choice-preserved-in-Some-false : goal.loop-choice-preserved-in-Some-false
loop-choice-preserved-in-Some-false c =
    let i = c.loop-choice.invariant in
    let r = c.in_ok-there.ensures in
    record {
      grows = Grows-trans _ _ _ i.grows r.grows;
      adds = front-passed _ _ c.args.edge c.args.choices.now c.loop-choice.choice-index c.choice-item.result
          c.choice-item.is _ _ _ c.loop-choice-test.true r.grows i.adds r.value
          (λ a s. c.in-Some-false.ensures.value a s ∙ c.in-Some-false.field-0-test);
    }

pub loop-choice-preserved : goal.loop-choice-preserved
loop-choice-preserved c =
    let i = c.loop-choice.invariant in
    let r = c.in_ok-there.ensures in
    record {
      grows = Grows-trans _ _ _ i.grows r.grows;
      adds = front-push _ _ c.args.edge c.args.choices.now c.loop-choice.choice-index c.choice-item.result
          c.choice-item.is _ _ _ c.loop-choice-test.true r.grows i.adds r.value _ _
          (rw c.as_slice.ensures at c.in_ok-cells.ensures) c.in_ok-push.ensures.items;
    }
