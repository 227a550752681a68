use Rattle.std.proofs.Common.{◌∙◌, ◌++◌, ◌∷◌, [], ap, ap₂, append_assoc, sym}
use Rattle.snowcat_rows.specs.declared.types.Ty.TheVariants as ty
use Rattle.kernel_reduction.specs.Rows.{case_branches}
use Rattle.kera_reducer.proofs.CaseArms.{next_arm}
use Rattle.kera_reducer.proofs.cases.branches_of.Goals as goal

pub loop-guard-preserved : goal.loop-guard-preserved
loop-guard-preserved c = λ rest o.
    let p = c.args.made.now.place in
    let added = c.in_ok-add_arm.ensures in
    ap₂ (λ bs fs. bs ++ case_branches p ty.Bool fs rest o) added.branches added.guards
    ∙ next_arm p c.loop-guard.branches.items c.loop-guard.front.items c.in-Some.guard c.in-Some.branch rest o _
    (c.loop-guard.invariant ((c.in-Some.guard, c.in-Some.branch) ∷ rest) o)
    ∙ ap (λ xs. case_branches p ty.Bool [] xs o)
    (sym (append_assoc c.loop-guard.yielded ((c.in-Some.guard, c.in-Some.branch) ∷ []) rest))
