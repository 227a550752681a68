use Rattle.op_inliner.proofs.CheckSteps.{later_first, own_first}
use Rattle.op_inliner.proofs.checks.+first_form.Goals as goal

pub first_form-returns-in-Some : goal.first_form-returns-in-Some
first_form-returns-in-Some t c = own_first c.args.e.now c.in-Some.form c.in-Some.ensures

pub first_form-returns-in-None : goal.first_form-returns-in-None
first_form-returns-in-None t c = later_first c.args.e.now c.as_slice.result.now c.first_of.result c.in-None.ensures c.as_slice.ensures c.first_of.ensures
