use Rattle.std.proofs.Common.{rules, ◌≡◌, ◌∙◌, Bool, ap, subst, true}
use Rattle.tla_meaning.specs.declared.op.Op.TheVariants as op
use Rattle.kernel_reduction.specs.Builds.{has_arm}
use Rattle.kernel_trees.specs.declared.kernel.KerOp.TheVariants as ker
use Rattle.kernel_reduction.specs.Rows.{nested_ifs, node}
use Rattle.kera_reducer.specs.inner.Standing.{MakesOf, flat, nested}
use Rattle.kera_reducer.proofs.CaseArms.{nested_none, nested_other}
use Rattle.kera_reducer.proofs.IfOks.{ok_by}
use Rattle.kera_reducer.proofs.RowsMade.{cases_make}
use Rattle.kera_reducer.proofs.cases.nested_ifs.Goals as goal

pub returns-in-Some : goal.returns-in-Some
returns-in-Some c =
    let m = c.args.made.now in
    let ks = c.args.kids.items in
    let xs = c.in_ok-arms.field-0.arms.items in
    let some : has_arm ks ≡ true = search rules in
    let kids = subst (λ z. flat xs z ≡ ks) c.in-Some.is c.in_ok-arms.ensures in
    ok_by _ (λ k. (b : Bool) → MakesOf m (op.Case b) ks k) _ c.nested.ensures
    (λ k e b. cases_make m b ks k some
    (e ∙ nested_other m.place m.ty.now xs c.in-Some.last ∙ ap (nested_ifs m.place m.ty.now) kids))

pub returns-in_ok-last-in-None : goal.returns-in_ok-last-in-None
returns-in_ok-last-in-None c =
    let m = c.args.made.now in
    let ks = c.args.kids.items in
    let xs = c.in_ok-arms.field-0.arms.items in
    let some : has_arm ks ≡ true = search rules in
    let kids = subst (λ z. flat xs z ≡ ks) c.in-None.is c.in_ok-arms.ensures in
    ok_by _ (λ k. (b : Bool) → MakesOf m (op.Case b) ks k) _ c.nested-in-None.ensures
    (λ k e b. cases_make m b ks k some
    (e ∙ ap (nested m.place m.ty.now xs) (c.in_ok-last-in-None.ensures ∙ ap (node m.place m.ty.now ker.NoCase) c.new.ensures.items) ∙ nested_none m.place m.ty.now xs
    ∙ ap (nested_ifs m.place m.ty.now) kids))
