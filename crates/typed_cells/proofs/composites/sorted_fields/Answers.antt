use Rattle.std.proofs.Common.{◌≡◌, ◌∙◌, ap, drop, length, refl, arith}
use Rattle.typed_cells.specs.FieldOrder.{in_order}
use Rattle.typed_cells.proofs.OrderedFields.{order-none, order-turn}
use Rattle.typed_cells.proofs.composites.sorted_fields.Goals as goal

pub loop-i-init : goal.loop-i-init
loop-i-init c = c.new-fields.ensures.items ∙ order-none c.args.names.now c.args.cells.now (length c.args.names.now) refl

pub loop-i-preserved : goal.loop-i-preserved
loop-i-preserved c =
    order-turn c.args.names.now c.args.cells.now c.loop-i.i _ _ _ _ _ (omega arith)
    (omega arith) c.requires c.loop-i.invariant c.index-names-i.is c.in_ok-name.ensures c.in_ok-put_field.ensures

pub returns : goal.returns
returns c =
    let none : c.loop-i.i ≡ 0 = omega arith in
    c.loop-i.invariant ∙ ap (λ n. in_order (drop n c.args.names.now) (drop n c.args.cells.now)) none
