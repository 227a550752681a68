use Rattle.std.proofs.Common.{◌≡◌, ◌∙◌, None, ap, subst}
use Rattle.kera_reducer.specs.inner.Standing.{flat}
use Rattle.kera_reducer.proofs.CaseArms.{with_arm, with_guard}
use Rattle.kera_reducer.proofs.cases.arms_of.Goals as goal

pub loop-kid-preserved-in-None-guard : goal.loop-kid-preserved-in-None-guard
loop-kid-preserved-in-None-guard c =
    with_guard c.loop-kid.arms.items c.loop-kid.yielded c.in-Some.kid
    (subst (λ z. flat c.loop-kid.arms.items z ≡ c.loop-kid.yielded) c.in-None-guard.is c.loop-kid.invariant)

pub loop-kid-preserved : goal.loop-kid-preserved
loop-kid-preserved c =
    ap (λ z. flat z None) c.in_ok-push-in-Some-guard.ensures.items
    ∙ with_arm c.loop-kid.arms.items c.loop-kid.yielded c.in-Some-guard.holds c.in-Some.kid
    (subst (λ z. flat c.loop-kid.arms.items z ≡ c.loop-kid.yielded) c.in-Some-guard.is c.loop-kid.invariant)
