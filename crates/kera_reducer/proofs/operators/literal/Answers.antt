use Rattle.std.proofs.Common.{rules, ◌≡◌, ◌∙◌, [], IfOk, ap, subst, sym}
use Rattle.tla_values.specs.declared.value.Value.TheVariants as value
use Rattle.kernel_trees.specs.declared.kernel.KerOp.TheVariants as ker
use Rattle.kernel_reduction.specs.Rows.{node}
use Rattle.kera_reducer.specs.inner.Standing.{MakesOf}
use Rattle.kera_reducer.proofs.IfOks.{ok_by}
use Rattle.kera_reducer.proofs.RowsMade.{boolean_makes, integer_makes, name_makes, text_makes}
use Rattle.kera_reducer.proofs.operators.literal.Goals as goal

pub returns-in-Bool : goal.returns-in-Bool
returns-in-Bool c =
    let m = c.args.made.now in
    let none : c.args.kids.items ≡ [] = search rules in
    ok_by _ (λ k. MakesOf m c.args.op.now c.args.kids.items k) _ c.whole.ensures
    (λ k e. subst (λ o. MakesOf m o c.args.kids.items k) (sym c.in-Bool.is)
    (boolean_makes m _ c.args.kids.items k none
    (e ∙ ap (λ z. node m.place m.ty.now (ker.Const (value.Bool c.in-Bool.value)) z) none)))

pub returns-in-Int : goal.returns-in-Int
returns-in-Int c =
    let m = c.args.made.now in
    let none : c.args.kids.items ≡ [] = search rules in
    let whole : IfOk c.whole-in-Int.result (λ k. k ≡ node m.place m.ty.now (ker.Const (value.Int c.in-Int.value)) c.args.kids.items) =
    search rules in
    ok_by _ (λ k. MakesOf m c.args.op.now c.args.kids.items k) _ whole
    (λ k e. subst (λ o. MakesOf m o c.args.kids.items k) (sym c.in-Int.is)
    (integer_makes m _ c.args.kids.items k none
    (e ∙ ap (λ z. node m.place m.ty.now (ker.Const (value.Int c.in-Int.value)) z) none)))

pub returns-in_ok-copy_text-in-Str : goal.returns-in_ok-copy_text-in-Str
returns-in_ok-copy_text-in-Str c =
    let m = c.args.made.now in
    let none : c.args.kids.items ≡ [] = search rules in
    ok_by _ (λ k. MakesOf m c.args.op.now c.args.kids.items k) _ c.whole-in-Str.ensures
    (λ k e. subst (λ o. MakesOf m o c.args.kids.items k) (sym c.in-Str.is)
    (text_makes m _ c.args.kids.items k none
    (e ∙ ap (λ z. node m.place m.ty.now (ker.Const (value.Text c.in_ok-copy_text-in-Str.field-0)) z) none
    ∙ ap (λ x. node m.place m.ty.now (ker.Const (value.Text x)) []) c.in_ok-copy_text-in-Str.ensures)))

pub returns-in-Name : goal.returns-in-Name
returns-in-Name c =
    let m = c.args.made.now in
    let none : c.args.kids.items ≡ [] = search rules in
    ok_by _ (λ k. MakesOf m c.args.op.now c.args.kids.items k) _ c.whole-in-Name.ensures
    (λ k e. subst (λ o. MakesOf m o c.args.kids.items k) (sym c.in-Name.is)
    (name_makes m _ _ c.args.kids.items k none
    (e ∙ ap (λ z. node m.place m.ty.now (ker.Name c.in-Name.number c.in-Name.primed) z) none)))
