use Rattle.std.proofs.Common.{◌∙◌}
use Rattle.snowcat_rows.proofs.Naming.{differ-Var}
use Rattle.snowcat_types.proofs.PartSteps.{one_declared}
use Rattle.snowcat_types.proofs.gathering.declared_type.Goals as goal

pub returns-clause-asked : goal.returns-clause-asked
returns-clause-asked c =
    one_declared c.args.number c.args.first c.in_ok-number.number c.args.of.now c.in_ok-of.of c.in_ok-of.ensures.mean c.in_ok-number.ensures

pub returns-clause-named : goal.returns-clause-named
returns-clause-named c = λ h. (c.in_ok-of.ensures.named ∙ h, differ-Var c.in_ok-number.number)
