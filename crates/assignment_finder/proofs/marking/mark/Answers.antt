use Rattle.std.proofs.Common.{false, ap, refl, sym, subst, ◌∙◌}
use Rattle.kernel_trees.specs.declared.path.PathStep.{PathStep}
use Rattle.kernel_trees.specs.declared.path.AssignedStep.TheVariants as mark
use Rattle.kernel_trees.specs.declared.path.PathStep.TheVariants as path
use Rattle.assignment_finder.specs.inner.Steps.{IsMarking}
use Rattle.assignment_finder.proofs.marking.mark.Goals as goal

pub returns-then-wanted : goal.returns-then-wanted
returns-then-wanted c =
    subst (λ (y : PathStep). IsMarking y c.args.free.now c.operand.new.free c.operand.result)
    (sym (c.in-Guard.is ∙ ap (path.Guard c.in-Guard.k) c.if-wanted.true)) c.operand.ensures

pub returns-else-wanted : goal.returns-else-wanted
returns-else-wanted c =
    subst (λ (y : PathStep). IsMarking y c.args.free.now c.args.free.now c.guard.result)
    (sym (c.in-Guard.is ∙ ap (path.Guard c.in-Guard.k) c.if-wanted.false))
    (λ m before h. (mark.Guard c.in-Guard.k false, (λ rest. refl, c.guard.ensures m before h tt)))

pub returns-in-Pick : goal.returns-in-Pick
returns-in-Pick c =
    subst (λ (y : PathStep). IsMarking y c.args.free.now c.args.free.now c.pick.result) (sym c.in-Pick.is)
    (λ m before h. (mark.Pick c.in-Pick.sets, (λ rest. refl, c.pick.ensures m before h tt)))
