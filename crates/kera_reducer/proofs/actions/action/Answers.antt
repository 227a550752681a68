use Rattle.std.proofs.Common.{Some, subst, sym}
use Rattle.kera_reducer.specs.inner.Standing.{Makes}
use Rattle.kera_reducer.proofs.ActionsMade.{and_makes, case_makes, exists_makes, if_makes, noted_makes, or_makes}
use Rattle.kera_reducer.proofs.IfOks.{ok_by}
use Rattle.kera_reducer.proofs.actions.action.Goals as goal

pub returns-in-And : goal.returns-in-And
returns-in-And c =
    subst (λ o. Makes c.args.made.now (Some c.args.assignable) o c.args.kids.items c.node.result) (sym c.in-And.is)
    (and_makes c.args.made.now c.args.assignable c.args.kids.items c.node.result c.node.ensures)

pub returns-in-Or : goal.returns-in-Or
returns-in-Or c =
    subst (λ o. Makes c.args.made.now (Some c.args.assignable) o c.args.kids.items c.node-in-Or.result) (sym c.in-Or.is)
    (or_makes c.args.made.now c.args.assignable c.args.kids.items c.node-in-Or.result c.node-in-Or.ensures)

pub returns-in_ok-numbers-in-Exists : goal.returns-in_ok-numbers-in-Exists
returns-in_ok-numbers-in-Exists c =
    subst (λ o. Makes c.args.made.now (Some c.args.assignable) o c.args.kids.items c.tree.result) (sym c.in-Exists.is)
    (exists_makes c.args.made.now c.args.assignable c.args.kids.items c.in_ok-numbers-in-Exists.numbers.items c.tree.result
    c.in_ok-numbers-in-Exists.ensures c.tree.ensures)

pub returns-in-Noted : goal.returns-in-Noted
returns-in-Noted c =
    ok_by _ (λ k. Makes c.args.made.now (Some c.args.assignable) c.args.op.now c.args.kids.items k) _ c.only.ensures
    (λ k e. subst (λ o. Makes c.args.made.now (Some c.args.assignable) o c.args.kids.items k) (sym c.in-Noted.is)
    (noted_makes c.args.made.now c.args.assignable _ c.args.kids.items k e))

pub returns-in-If : goal.returns-in-If
returns-in-If c =
    ok_by _ (λ k. Makes c.args.made.now (Some c.args.assignable) c.args.op.now c.args.kids.items k) _ c.branching.ensures
    (λ k e. subst (λ o. Makes c.args.made.now (Some c.args.assignable) o c.args.kids.items k) (sym c.in-If.is)
    (if_makes c.args.made.now c.args.assignable c.args.kids.items k e))

pub returns-in-Case : goal.returns-in-Case
returns-in-Case c =
    ok_by _ (λ k. Makes c.args.made.now (Some c.args.assignable) c.args.op.now c.args.kids.items k) _ c.split_case.ensures
    (λ k e. subst (λ o. Makes c.args.made.now (Some c.args.assignable) o c.args.kids.items k) (sym c.in-Case.is)
    (case_makes c.args.made.now c.args.assignable _ c.args.kids.items k e))
