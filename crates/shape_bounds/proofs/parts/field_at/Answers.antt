use Rattle.std.proofs.Common.{◌≡◌, ◌+◌, suc, ◌∙◌, sym, ap, map, drop, refl, arith}
use Rattle.tla_meaning.proofs.Views.{false≢true}
use Rattle.kernel_shapes.specs.Codes.{mean}
use Rattle.kernel_shapes.specs.Shape.{field, shapes}
use Rattle.shape_bounds.proofs.Places.{field_here, field_more, field_none}
use Rattle.shape_bounds.proofs.parts.field_at.Goals as goal

pub returns-then-same_text : goal.returns-then-same_text
returns-then-same_text c =
    field_here c.args.x.now c.args.fields.now c.loop-field.field-index c.field-item.result c.loop-field-test.true c.field-item.is (c.if-same_text.ensures.0 refl)
    ∙ sym c.loop-field.invariant

pub loop-field-preserved : goal.loop-field-preserved
loop-field-preserved c =
    let e : suc c.loop-field.field-index ≡ c.loop-field.field-index + 1 = omega arith in
    c.loop-field.invariant
    ∙ field_more c.args.x.now c.args.fields.now c.loop-field.field-index c.field-item.result c.loop-field-test.true c.field-item.is
    (λ s. false≢true (c.if-same_text.ensures.1 s))
    ∙ ap (λ i. field c.args.x.now (map (λ f. f.0) (drop i c.args.fields.now)) (shapes (map (λ f. mean f.1) (drop i c.args.fields.now)))) e

pub returns : goal.returns
returns c = field_none c.args.x.now c.args.fields.now c.loop-field.field-index (omega arith) ∙ sym c.loop-field.invariant
