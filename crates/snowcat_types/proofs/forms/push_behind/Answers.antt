use Rattle.std.proofs.Common.{◌∙◌, ap, sym}
use Rattle.snowcat_rows.specs.FieldNames.{names}
use Rattle.snowcat_rows.specs.TypeTexts.{is_among}
use Rattle.snowcat_rows.specs.Types.{mean}
use Rattle.snowcat_types.proofs.FieldSteps.{fields_more, told_already, told_behind}
use Rattle.snowcat_types.proofs.forms.push_behind.Goals as goal

pub returns-then-has_field-clause-tells : goal.returns-then-has_field-clause-tells
returns-then-has_field-clause-tells c = λ n.
    sym (told_already c.args.name.now (mean c.args.of.now) c.args.fields.now.items n
    (ap (λ z. is_among c.args.name.now (names z)) (sym c.as_slice.ensures.value) ∙ sym c.if-has_field.ensures))

pub returns-clause-tells : goal.returns-clause-tells
returns-clause-tells c =
    told_behind c.args.fields.now.items c.push.new.self.items c.args.name.now c.in_ok-name.name c.args.of.now c.in_ok-of.of c.in_ok-push.ensures.items
    c.in_ok-name.ensures c.in_ok-of.ensures

pub returns-clause-named : goal.returns-clause-named
returns-clause-named c = λ k h.
    fields_more c.args.fields.now.items c.push.new.self.items c.args.name.now c.in_ok-name.name c.args.of.now c.in_ok-of.of c.in_ok-push.ensures.items
    c.in_ok-name.ensures c.in_ok-of.ensures
    (ap (λ z. is_among c.args.name.now (names z)) (sym c.as_slice.ensures.value) ∙ sym c.if-has_field.ensures) h k
