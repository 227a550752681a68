use Rattle.std.proofs.Common.{◌∙◌, ap, sym, refl, Some, true≢false}
use Rattle.kera_reducer.proofs.ExceptSteps.{field_here, field_later}
use Rattle.kera_reducer.proofs.IfOks.{ok_by}
use Rattle.kera_reducer.proofs.part_types.field_type.Goals as goal

pub returns-then-same_text : goal.returns-then-same_text
returns-then-same_text c =
    ok_by _ _ c.copy_type.result c.copy_type.ensures
    (λ t e. field_here c.args.fields.now c.loop-field.field-index c.field-item.result c.args.name.now c.loop-field-test.true
    c.field-item.is c.loop-field.invariant (c.if-same_text.ensures.0 refl) ∙ ap Some (sym e))

pub loop-field-preserved : goal.loop-field-preserved
loop-field-preserved c =
    field_later c.args.fields.now c.loop-field.field-index c.field-item.result c.args.name.now c.loop-field-test.true
    c.field-item.is c.loop-field.invariant (λ e. true≢false (sym (c.if-same_text.ensures.1 e)))
