use Rattle.snowcat_types.proofs.SayingSteps.{said_is, split_is, unsaid}
use Rattle.snowcat_types.proofs.saying.said.Goals as goal

pub returns-in-Some-2 : goal.returns-in-Some-2
returns-in-Some-2 c = λ al h.
    said_is al c.args.text.now c.in-Some.annotation.now c.in-Some.number c.in_ok-read.field-0 c.in-Some-2.read c.bound_by_whole.result
    (split_is (λ t. t.now) c.args.text.now c.in_ok-number.field-0 (c.in-Some.number, c.in-Some.annotation) c.in-Some.is c.in_ok-number.ensures)
    (c.in_ok-read.ensures al h) c.in-Some-2.is c.bound_by_whole.ensures.binds c.bound_by_whole.ensures.named

pub returns-in-None : goal.returns-in-None
returns-in-None c = λ al h.
    unsaid al c.args.text.now c.in-Some.annotation.now c.in-Some.number c.in_ok-read.field-0
    (split_is (λ t. t.now) c.args.text.now c.in_ok-number.field-0 (c.in-Some.number, c.in-Some.annotation) c.in-Some.is c.in_ok-number.ensures)
    (c.in_ok-read.ensures al h) c.in-None.is
