use Rattle.std.proofs.Common.{◌∙◌, arith}
use Rattle.snowcat_rows.proofs.Means.{mean-Bool}
use Rattle.snowcat_types.proofs.FormSteps.{type_past}
use Rattle.snowcat_types.proofs.forms.type_at.Goals as goal

pub returns : goal.returns
returns c = mean-Bool ∙ type_past c.args.types.now c.args.i (let h = c.if-i-types.false in omega (arith, h))
