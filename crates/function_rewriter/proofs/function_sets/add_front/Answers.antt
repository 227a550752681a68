use Rattle.std.proofs.Common.{◌∙◌, refl, arith}
use Rattle.sat_formula.proofs.Extension.{Grows-refl, Grows-trans}
use Rattle.function_rewriter.proofs.ArrowPairs.{ArrowsNamed-later}
use Rattle.function_rewriter.proofs.FunctionListings.{front-none, front-passed, front-push, front-all, choices-later, choice-below}
use Rattle.function_rewriter.proofs.function_sets.add_front.Goals as goal

pub loop-choice-init : goal.loop-choice-init
loop-choice-init c = record { grows = Grows-refl _; adds = front-none _ _ _ c.args.choices.now _ c.requires.out_named }

pub and-requires-clause-x_below : goal.and-requires-clause-x_below
and-requires-clause-x_below c = let p = choice-below _ _ _ _ c.requires.named c.loop-choice-test.true c.choice-item.is in let q = c.loop-choice.invariant.grows.vars in omega arith

pub loop-choice-preserved-in-Some-false : goal.loop-choice-preserved-in-Some-false
loop-choice-preserved-in-Some-false c =
    let i = c.loop-choice.invariant in
    let r = c.in_ok-both.ensures in
    record {
      grows = Grows-trans _ _ _ i.grows r.grows;
      adds = front-passed _ _ c.args.there c.args.front.now c.args.choices.now c.loop-choice.choice-index c.choice-item.result c.choice-item.is _ _ _ c.loop-choice-test.true r.grows i.adds r.value
          (λ a s. c.in-Some-false.ensures.value a s ∙ c.in-Some-false.field-0-test);
    }

pub loop-choice-preserved : goal.loop-choice-preserved
loop-choice-preserved c =
    let i = c.loop-choice.invariant in
    let r = c.in_ok-both.ensures in
    let g = Grows-trans _ _ _ i.grows r.grows in
    record {
      grows = g;
      adds = front-push _ _ c.args.there c.args.front.now c.args.choices.now c.loop-choice.choice-index c.choice-item.result c.choice-item.is _ _ _ c.loop-choice-test.true r.grows i.adds r.value _ _
          (choices-later _ _ c.args.choices.now c.requires.named g.vars) (ArrowsNamed-later _ _ c.args.front.now c.requires.front_named g.vars) (rw c.as_slice.ensures at c.in_ok-arrows.ensures) c.in_ok-push.ensures.items;
    }

pub returns-clause-adds : goal.returns-clause-adds
returns-clause-adds c = front-all _ _ _ _ c.args.choices.now _ _ c.loop-choice.choice-index (omega arith) refl c.loop-choice.invariant.adds
