use Rattle.snowcat_types.proofs.SayingSteps.{name_told, name_untold}
use Rattle.snowcat_types.proofs.saying.name_type.Goals as goal

pub returns-in-Some-2 : goal.returns-in-Some-2
returns-in-Some-2 c = λ al h.
    name_told al c.args.decl.now c.bytes.result.now c.in-Some.text.now c.in_ok-read.field-0 c.in-Some-2.read c.without_operator.result
    c.bytes.ensures c.in-Some.ensures.some (c.in_ok-read.ensures al h) c.in-Some-2.is c.without_operator.ensures

pub returns-in-None : goal.returns-in-None
returns-in-None c = λ al h.
    name_untold al c.args.decl.now c.bytes.result.now c.in-Some.text.now c.in_ok-read.field-0
    c.bytes.ensures c.in-Some.ensures.some (c.in_ok-read.ensures al h) c.in-None.is
