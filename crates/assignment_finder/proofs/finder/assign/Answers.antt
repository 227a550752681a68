use Rattle.std.proofs.Common.{◌≡◌, ◌⊎◌, inl, inr, List, [], true, ap, sym, subst, ◌∙◌, None}
use Rattle.std.proofs.lemmas.Result.{err_from_is_err_and}
use Rattle.kernel_trees.specs.declared.path.AssignedStep.{AssignedStep}
use Rattle.kernel_trees.specs.declared.path.PathStep.{PathStep}
use Rattle.kernel_trees.specs.ActionNames.{marks}
use Rattle.kernel_trees.specs.Paths.{Marks}
use Rattle.kernel_trees.specs.Assignments.{marked, path_ended}
use Rattle.assignment_finder.specs.declared.assign_fault.AssignFault.TheVariants.{Unassigned}
use Rattle.assignment_finder.specs.Finding.{IsAssigned, IsPathFault}
use Rattle.assignment_finder.specs.inner.Open.{IsFirstOpen, open_by}
use Rattle.assignment_finder.specs.inner.Steps.{IsWalked}
use Rattle.assignment_finder.proofs.Opening.{same_marks}
use Rattle.assignment_finder.proofs.Walking.{assigned, lacking, path_fault}
use Rattle.assignment_finder.proofs.finder.assign.Goals as goal
use Rattle.assignment_finder.proofs.finder.assign.Goals.{then-not-has_ended+in_default, else-not-has_ended}

pub returns-in_err-found : goal.returns-in_err-found
returns-in_err-found c =
    let e = same_marks c.marks_of.result c.args.kind c.as_slice.result.now c.args.names.now c.as_slice.ensures c.marks_of.ensures.declared c.marks_of.ensures.assignable in
    let p = err_from_is_err_and c.from_residual-in_err-found.result c.from_residual-in_err-found.ensures.1 in
    rw (p.1, p.2)
    (subst (λ (m : Marks). IsPathFault m c.args.path.now (marked m [] c.args.path.now.steps) c.in_err-found.field-0.0) e
    (subst (λ (ys : List PathStep). IsPathFault (marks c.marks_of.result) c.args.path.now (marked (marks c.marks_of.result) [] ys) c.in_err-found.field-0.0)
    c.as_slice-given.ensures
    (path_fault (marks c.marks_of.result) c.args.path.now (marked (marks c.marks_of.result) [] c.as_slice-given.result.now) c.in_err-found.field-0.0
    (c.in_err-found.ensures.refused (marks c.marks_of.result) c.in_ok-free.ensures))))

pub returns-in-Some : goal.returns-in-Some
returns-in-Some c =
    let e = same_marks c.marks_of.result c.args.kind c.as_slice.result.now c.args.names.now c.as_slice.ensures c.marks_of.ensures.declared c.marks_of.ensures.assignable in
    let w = subst (λ (ys : List PathStep). IsWalked (marks c.marks_of.result) ys c.in_ok-found.found.items c.mark_all.new.free) c.as_slice-given.ensures
    (c.in_ok-found.ensures.walked (marks c.marks_of.result) c.in_ok-free.ensures) in
    subst (λ (m : Marks). IsPathFault m c.args.path.now (marked m [] c.args.path.now.steps) (Unassigned c.in-Some.name c.args.path.now.place)) e
    (lacking (marks c.marks_of.result) c.args.path.now c.in_ok-found.found.items c.mark_all.new.free w c.in-Some.name
    (sym (ap path_ended c.as_slice-given.ensures) ∙ sym c.has_ended.ensures ∙ c.if-not-has_ended.true)
    c.in-Some.ensures)

pub returns : goal.returns
returns c =
    let e = same_marks c.marks_of.result c.args.kind c.as_slice.result.now c.args.names.now c.as_slice.ensures c.marks_of.ensures.declared c.marks_of.ensures.assignable in
    let w = subst (λ (ys : List PathStep). IsWalked (marks c.marks_of.result) ys c.in_ok-found.found.items c.mark_all.new.free) c.as_slice-given.ensures
    (c.in_ok-found.ensures.walked (marks c.marks_of.result) c.in_ok-free.ensures) in
    let end : (path_ended c.args.path.now.steps ≡ true) ⊎ IsFirstOpen (open_by c.mark_all.new.free) None = elim c.if-not-has_ended.branch [
      | then-not-has_ended+in_default w ↦ inr w.in_default.ensures
      | else-not-has_ended w ↦ inl (sym (ap path_ended c.as_slice-given.ensures) ∙ sym c.has_ended.ensures ∙ w.if-not-has_ended.false)
    ] in
    subst (λ (m : Marks). IsAssigned m c.args.path.now (record { place = c.args.path.now.place; steps = c.from_vec.result })) e
    (subst (λ (zs : List AssignedStep). IsAssigned (marks c.marks_of.result) c.args.path.now (record { place = c.args.path.now.place; steps = zs }))
    (sym c.from_vec.ensures)
    (assigned (marks c.marks_of.result) c.args.path.now c.in_ok-found.found.items c.mark_all.new.free w end))
