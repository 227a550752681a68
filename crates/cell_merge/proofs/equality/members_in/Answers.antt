use Rattle.std.proofs.Common.{◌∙◌, ap, arith}
use Rattle.sat_formula.specs.declared.lit.Lit.{Lit}
use Rattle.sat_formula.proofs.Extension.{Grows-trans}
use Rattle.cell_merge.proofs.Tested.{tests-off, tests-more}
use Rattle.cell_merge.proofs.equality.members_in.Goals as goal

pub loop-l-preserved-in-Some-false : goal.loop-l-preserved-in-Some-false
loop-l-preserved-in-Some-false c =
    let i = c.loop-l.invariant in
    record {
      grows = i.grows;
      tests = tests-off _ _ c.as_slice-l-items.result.now c.loop-l.l-index _ _ _ _ _ c.loop-l-test.true i.tests
          (let v = ap (λ (l : Lit). l.var) c.negated-none.ensures in let b = c.top.ensures.below in let g = i.grows.vars in omega arith)
          (λ a s. c.in-Some-false.ensures.value a s ∙ c.in-Some-false.field-0-test) c.in_ok-push.ensures.items;
    }

pub loop-l-preserved : goal.loop-l-preserved
loop-l-preserved c =
    let i = c.loop-l.invariant in
    record {
      grows = Grows-trans _ _ _ i.grows c.in_ok-found.ensures.grows;
      tests = tests-more _ _ _ c.as_slice-l-items.result.now c.loop-l.l-index _ _ _ _ _ c.loop-l-test.true i.tests c.in_ok-found.ensures.grows c.in_ok-found.ensures.value.below
          (λ a s on. c.in_ok-found.ensures.value.value a s) c.in_ok-push-2.ensures.items;
    }
