use Rattle.snowcat_types.proofs.NumberSteps.{unbroken_none, undecimal_none}
use Rattle.snowcat_types.proofs.numbered.split.Goals as goal

pub returns-in_default : goal.returns-in_default
returns-in_default c = unbroken_none c.args.text.now c.in_default.ensures

pub returns-in-None : goal.returns-in-None
returns-in-None c =
    undecimal_none c.args.text.now c.in-Some.digits.now c.in-Some.annotation.now c.in_ok-number.field-0 c.in-Some.ensures.0 c.in-Some.ensures.1
    c.in-None.is c.in_ok-number.ensures
