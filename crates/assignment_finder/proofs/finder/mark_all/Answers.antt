use Rattle.std.proofs.Common.{List, [], ◌∷◌, ◌++◌, suc, take, drop, arith, ap₂, sym, subst, ◌∙◌}
use Rattle.std.proofs.lemmas.Result.{err_from_is_err_and}
use Rattle.kernel_trees.specs.declared.path.AssignedStep.{AssignedStep}
use Rattle.kernel_trees.specs.declared.path.PathStep.{PathStep}
use Rattle.kernel_trees.specs.Assignments.{marked}
use Rattle.assignment_finder.specs.inner.Steps.{IsFirstRefusal, IsWalked}
use Rattle.assignment_finder.proofs.Listing.{around, take_all, take_more}
use Rattle.assignment_finder.proofs.Walking.{next, refused}
use Rattle.assignment_finder.proofs.finder.mark_all.Goals as goal

pub returns-in_err-next-clause-refused : goal.returns-in_err-next-clause-refused
returns-in_err-next-clause-refused c =
    let p = err_from_is_err_and c.from_residual-in_err-next.result c.from_residual-in_err-next.ensures.1 in
    rw (p.1, p.2) (λ m h.
    let w = c.loop-step.invariant m h in
    let s = c.in_err-next.ensures m w.before w.left in
    subst (λ (ys : List PathStep). IsFirstRefusal m [] (marked m [] ys) c.in_err-next.field-0.0)
    (sym (around c.args.steps.now c.loop-step.step-index c.step-item.result c.loop-step-test.true c.step-item.is))
    (refused m (take c.loop-step.step-index c.args.steps.now) c.loop-step.found.items c.loop-step.free w c.step-item.result s.0 s.1.0
    (drop (suc c.loop-step.step-index) c.args.steps.now) c.in_err-next.field-0.0 s.1.1))

pub loop-step-preserved : goal.loop-step-preserved
loop-step-preserved c = λ m h.
    let w = c.loop-step.invariant m h in
    let s = c.in_ok-next.ensures m w.before w.left in
    subst (λ (ys : List PathStep). IsWalked m ys c.push_reserved.new.self.items c.mark.new.free)
    (sym (take_more c.args.steps.now c.loop-step.step-index c.step-item.result c.loop-step-test.true c.step-item.is))
    (subst (λ (zs : List AssignedStep). IsWalked m (take c.loop-step.step-index c.args.steps.now ++ c.step-item.result ∷ []) zs c.mark.new.free)
    (sym (c.push_reserved.ensures.items ∙ ap₂ (λ (zs : List AssignedStep) (z : AssignedStep). zs ++ z ∷ []) c.in_ok-reserve.ensures.items s.1.1.0))
    (next m (take c.loop-step.step-index c.args.steps.now) c.loop-step.found.items c.loop-step.free w c.step-item.result s.0 s.1.0 c.mark.new.free s.1.1.1))

pub returns-clause-walked : goal.returns-clause-walked
returns-clause-walked c = λ m h.
    subst (λ (ys : List PathStep). IsWalked m ys c.loop-step.found.items c.loop-step.free)
    (take_all c.args.steps.now c.loop-step.step-index (let lt = c.loop-step-test.false in omega (arith, lt)))
    (c.loop-step.invariant m h)
