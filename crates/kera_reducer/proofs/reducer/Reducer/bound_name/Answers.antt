use Rattle.std.proofs.Common.{rules, ◌≡◌, ◌∙◌, [], ap, subst, sym}
use Rattle.tla_meaning.specs.declared.expr.Expr.{out-Expr}
use Rattle.kernel_reduction.specs.Rows.{bound}
use Rattle.kera_reducer.specs.inner.Standing.{IsBoundName, names_of}
use Rattle.kera_reducer.proofs.Children.{name_bound}
use Rattle.kera_reducer.proofs.reducer.Reducer.bound_name.Goals as goal

pub returns : goal.returns
returns c =
    let e = c.args.e.now in
    let names = names_of c.args.self.now in
    let none : (out-Expr e).args ≡ [] = search rules in
    let made = c.bound.ensures ∙ ap (λ t. bound (out-Expr e).place t c.in_ok-number.number) c.in_ok-ty.ensures in
    subst (λ k. IsBoundName c.args.name.now e names c.args.ty.now k) (sym made)
    (name_bound c.args.name.now e names c.args.ty.now c.in_ok-number.number none c.in_ok-number.ensures)
