use Rattle.std.proofs.Common.{rules, ◌≡◌, ◌∙◌, ◌∷◌, [], ap, true, false}
use Rattle.snowcat_rows.specs.declared.types.Ty.TheVariants as ty
use Rattle.tla_meaning.specs.declared.op.Op.TheVariants as op
use Rattle.kernel_trees.specs.declared.kernel.KerOp.TheVariants as ker
use Rattle.kernel_reduction.specs.Rows.{node, truth}
use Rattle.kera_reducer.specs.inner.Standing.{MakesOf}
use Rattle.kera_reducer.proofs.IfOks.{ok_by}
use Rattle.kera_reducer.proofs.RowsMade.{truth_values_make}
use Rattle.kera_reducer.proofs.operators.truth_values.Goals as goal

pub returns : goal.returns
returns c =
    let m = c.args.made.now in
    let none : c.args.kids.items ≡ [] = search rules in
    let kids : c.in_ok-values.values.items ≡ truth m.place ty.Bool false ∷ truth m.place ty.Bool true ∷ [] = search rules in
    ok_by _ (λ k. MakesOf m op.BooleanSet c.args.kids.items k) _ c.whole.ensures
    (λ k e. truth_values_make m c.args.kids.items k none (e ∙ ap (node m.place m.ty.now ker.SetOf) kids))
