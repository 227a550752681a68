use Rattle.std.proofs.Common.{◌∙◌}
use Rattle.sat_formula.proofs.Extension.{Grows-trans}
use Rattle.member_choices.proofs.Parts.{keeps-passed, keeps-push}
use Rattle.member_choices.proofs.sets.keep_choices.Goals as goal

pub loop-i-preserved-in-Some-false : goal.loop-i-preserved-in-Some-false
loop-i-preserved-in-Some-false c =
    let i = c.loop-i.invariant in
    let r = c.in_ok-both.ensures in
    record {
      grows = Grows-trans _ _ _ i.grows r.grows;
      keeps = keeps-passed _ _ c.args.cs.now c.args.lits.now _ c.loop-i.i _ _ _
          (record { index = 0 }) c.loop-i-test.true c.requires.ones r.grows i.keeps r.value
          (λ a s. c.in-Some-false.ensures.value a s ∙ c.in-Some-false.field-0-test);
    }

pub loop-i-preserved : goal.loop-i-preserved
loop-i-preserved c =
    let i = c.loop-i.invariant in
    let r = c.in_ok-both.ensures in
    record {
      grows = Grows-trans _ _ _ i.grows r.grows;
      keeps = keeps-push _ _ c.args.cs.now c.args.lits.now _ c.loop-i.i _ _ _
          (record { index = 0 }) c.loop-i-test.true c.requires.ones r.grows i.keeps r.value _ _
          (rw c.as_slice.ensures at c.in_ok-push.ensures.items);
    }
