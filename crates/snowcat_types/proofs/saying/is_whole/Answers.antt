use Rattle.snowcat_rows.specs.Types.{mean}
use Rattle.snowcat_types.proofs.SayingSteps.{not_operator, whole_match}
use Rattle.snowcat_types.proofs.saying.is_whole.Goals as goal

pub returns-in_default : goal.returns-in_default
returns-in_default c =
    whole_match c.has_no_operator-in_default.result (mean c.args.t.now) (not_operator c.args.t.now c.in_default.not-Oper)
    c.has_no_operator-in_default.ensures
