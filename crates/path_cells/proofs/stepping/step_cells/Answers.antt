use Rattle.std.proofs.Common.{[], ◌∷◌, subst, sym}
use Rattle.kernel_trees.specs.declared.path.AssignedStep.TheVariants as mark
use Rattle.path_walks.specs.Paths.{CanRewritePath}
use Rattle.path_cells.specs.inner.Steps.{CanPick, IsStepCells}
use Rattle.path_cells.proofs.Conditions.{can_among, can_equals, can_guard, can_pick}
use Rattle.path_cells.proofs.stepping.step_cells.Goals as goal

pub guard-requires : goal.guard-requires
guard-requires c =
    can_guard c.args.b.now c.args.env.now _ _ (subst (λ z. CanRewritePath c.args.b.now c.args.env.now (z ∷ [])) c.in-Guard.is c.requires)

pub returns-in_ok-m-in-Guard-clause-step : goal.returns-in_ok-m-in-Guard-clause-step
returns-in_ok-m-in-Guard-clause-step c =
    subst (λ z. IsStepCells c.args.b.now c.guard.new.b c.args.env.now z c.in_ok-m-in-Guard.m) (sym c.in-Guard.is) c.in_ok-m-in-Guard.ensures.step

pub picked-requires : goal.picked-requires
picked-requires c =
    subst (λ ps. CanPick c.args.b.now ps c.args.env.now) (sym c.as_slice.ensures)
    (can_pick c.args.b.now c.args.env.now _ (subst (λ z. CanRewritePath c.args.b.now c.args.env.now (z ∷ [])) c.in-Pick.is c.requires))

pub returns-in_ok-m-in-Pick-clause-step : goal.returns-in_ok-m-in-Pick-clause-step
returns-in_ok-m-in-Pick-clause-step c =
    subst (λ z. IsStepCells c.args.b.now c.picked.new.b c.args.env.now z c.in_ok-m-in-Pick.m) (sym c.in-Pick.is)
    (subst (λ ps. IsStepCells c.args.b.now c.picked.new.b c.args.env.now (mark.Pick ps) c.in_ok-m-in-Pick.m) c.as_slice.ensures c.in_ok-m-in-Pick.ensures.step)

pub value-requires : goal.value-requires
value-requires c =
    can_equals c.args.b.now c.args.env.now _ _ (subst (λ z. CanRewritePath c.args.b.now c.args.env.now (z ∷ [])) c.in-Equals.is c.requires)

pub returns-in_ok-m-in-Equals-clause-step : goal.returns-in_ok-m-in-Equals-clause-step
returns-in_ok-m-in-Equals-clause-step c =
    subst (λ z. IsStepCells c.args.b.now c.value.new.b c.args.env.now z c.in_ok-m-in-Equals.m) (sym c.in-Equals.is) (c.in_ok-m-in-Equals.ensures.step _)

pub member-requires : goal.member-requires
member-requires c =
    can_among c.args.b.now c.args.env.now _ _ (subst (λ z. CanRewritePath c.args.b.now c.args.env.now (z ∷ [])) c.in-Among.is c.requires)

pub returns-in_ok-m-in-Among-clause-step : goal.returns-in_ok-m-in-Among-clause-step
returns-in_ok-m-in-Among-clause-step c =
    subst (λ z. IsStepCells c.args.b.now c.member.new.b c.args.env.now z c.in_ok-m-in-Among.m) (sym c.in-Among.is) (c.in_ok-m-in-Among.ensures.step _)
