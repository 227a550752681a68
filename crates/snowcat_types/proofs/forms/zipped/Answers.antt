use Rattle.std.proofs.Common.{◌∙◌, ap, arith}
use Rattle.snowcat_rows.specs.Types.{lookup}
use Rattle.snowcat_types.proofs.FieldSteps.{one_told}
use Rattle.snowcat_types.proofs.FormSteps.{zip_enough}
use Rattle.snowcat_types.proofs.NamedSteps.{type_at_named}
use Rattle.snowcat_types.proofs.forms.zipped.Goals as goal

pub returns-then-i-types-clause-tells : goal.returns-then-i-types-clause-tells
returns-then-i-types-clause-tells c = λ n.
    c.loop-i.invariant.tells n
    ∙ ap (λ z. lookup z n) (zip_enough c.args.names.now c.args.types.now c.loop-i.i (let h = c.if-i-types.true in omega (arith, h)))

pub loop-i-preserved : goal.loop-i-preserved
loop-i-preserved c = record {
  within = let h = c.if-i-types.false in omega (arith, h);
  tells = λ n.
      c.in_ok-push_behind.ensures.tells n
      ∙ one_told c.args.names.now c.args.types.now c.loop-i.i c.index-names-i.result c.index-names-i.result c.index-types-i.result c.index-types-i.result
      c.loop-i.fields.items c.loop-i-test.true (let h = c.if-i-types.false in omega (arith, h)) c.index-names-i.is c.index-types-i.is
      c.loop-i.invariant.tells n;
  named = λ h.
      c.in_ok-push_behind.ensures.named (c.loop-i.invariant.named h)
      (type_at_named c.args.types.now c.loop-i.i c.index-types-i.result (let h = c.if-i-types.false in omega (arith, h)) c.index-types-i.is h);
}
