use Rattle.std.proofs.Common.{◌≡◌, ◌∙◌, ◌-◌, ◌<◌, suc, ap, ap₂, map, drop, length, refl, arith}
use Rattle.kernel_shapes.specs.Codes.{mean}
use Rattle.kernel_shapes.specs.Rows.{in_order, put_field}
use Rattle.shape_bounds.specs.inner.Table.{fields_of}
use Rattle.shape_bounds.proofs.Fielded.{in_order_more, order_none, record_is}
use Rattle.shape_bounds.proofs.records.record.Goals as goal

pub loop-i-init : goal.loop-i-init
loop-i-init c = ap fields_of c.new-fields.ensures.items ∙ order_none c.args.names.now c.args.values.now (length c.args.names.now) refl

pub loop-i-preserved : goal.loop-i-preserved
loop-i-preserved c =
    let one : c.loop-i.i ≡ suc (c.loop-i.i - 1) = omega arith in
    let less : c.loop-i.i - 1 < length c.args.names.now = omega arith in
    let same : length c.args.names.now ≡ length c.args.values.now = c.if-names-values.false in
    let less2 : c.loop-i.i - 1 < length c.args.values.now = omega arith in
    c.in_ok-put_field.ensures
    ∙ ap (put_field c.in_ok-name.name (mean c.in_ok-value.value))
    (c.loop-i.invariant ∙ ap (λ n. in_order (drop n c.args.names.now) (drop n (map mean c.args.values.now))) one)
    ∙ ap₂ (λ x v. put_field x (mean v) (in_order (drop (suc (c.loop-i.i - 1)) c.args.names.now) (drop (suc (c.loop-i.i - 1)) (map mean c.args.values.now))))
    c.in_ok-name.ensures c.in_ok-value.ensures
    ∙ in_order_more c.args.names.now c.args.values.now (c.loop-i.i - 1) _ _ less less2 c.index-names-i.is c.index-values-i.is

pub returns : goal.returns
returns c = λ w.
    let none : c.loop-i.i ≡ 0 = omega arith in
    record_is c.args.names.now c.args.values.now c.loop-i.fields.items c.from_vec.result c.from_vec.ensures
    (c.loop-i.invariant ∙ ap (λ n. in_order (drop n c.args.names.now) (drop n (map mean c.args.values.now))) none)
