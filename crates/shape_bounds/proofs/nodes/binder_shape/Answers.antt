use Rattle.std.proofs.Common.{◌∙◌, ◌++◌, ◌∷◌, [], ap, length, map, sym}
use Rattle.kernel_shapes.specs.Codes.{mean}
use Rattle.kernel_shapes.specs.Rows.{no_literal}
use Rattle.kernel_shapes.specs.Shape.{Fun, Set}
use Rattle.shape_bounds.specs.inner.Nodes.{binder_row}
use Rattle.shape_bounds.specs.inner.Table.{row_kept}
use Rattle.shape_bounds.proofs.Rowed.{binder_at, function_kept, map_kept, ok_each}
use Rattle.shape_bounds.proofs.nodes.binder_shape.Goals as goal

pub returns-in-Filter : goal.returns-in-Filter
returns-in-Filter c = binder_at c.args.op.now _ _ _ _ _ (ap (λ o. binder_row o (length c.args.sets.now)) c.in-Filter.is) c.filtered.ensures

pub returns-in-MapOver : goal.returns-in-MapOver
returns-in-MapOver c =
    ok_each _ (Set c.product_of.result (mean c.args.body)) _
    (λ w. map_kept w (length c.args.sets.now) c.product_of.result (map mean c.args.sets.now) (mean c.args.body) c.product_of.ensures
    ∙ ap (λ r. row_kept w r no_literal (map mean c.args.sets.now ++ mean c.args.body ∷ [])) (sym (ap (λ o. binder_row o (length c.args.sets.now)) c.in-MapOver.is)))
    c.set.ensures

pub returns-in_ok-argument-in-FunOf : goal.returns-in_ok-argument-in-FunOf
returns-in_ok-argument-in-FunOf c =
    ok_each _ (Fun c.product_of-in-FunOf.result (mean c.in_ok-argument-in-FunOf.argument) (mean c.args.body)) _
    (λ w. function_kept w (length c.args.sets.now) c.product_of-in-FunOf.result (map mean c.args.sets.now) (mean c.in_ok-argument-in-FunOf.argument) (mean c.args.body)
    c.product_of-in-FunOf.ensures c.in_ok-argument-in-FunOf.ensures
    ∙ ap (λ r. row_kept w r no_literal (map mean c.args.sets.now ++ mean c.args.body ∷ [])) (sym (ap (λ o. binder_row o (length c.args.sets.now)) c.in-FunOf.is)))
    c.function.ensures
