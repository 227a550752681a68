use Rattle.std.proofs.Common.{None}
use Rattle.op_inliner.proofs.NoteSteps.{noted_node, noted_parameter}
use Rattle.op_inliner.proofs.bodies.+parameters_noted.Goals as goal

pub parameters_noted-returns-in_ok-whole-in-Some : goal.parameters_noted-returns-in_ok-whole-in-Some
parameters_noted-returns-in_ok-whole-in-Some t c =
    noted_parameter c.args.place c.args.params.now c.args.annotation.now c.args.e c.in_ok-args.args c.in-Some.i c.in_ok-whole-in-Some.whole
    c.in_ok-whole-in-Some.ensures c.in-Some.ensures c.in_ok-args.ensures

pub parameters_noted-returns-in-None : goal.parameters_noted-returns-in-None
parameters_noted-returns-in-None t c =
    noted_node c.args.place c.args.params.now c.args.annotation.now c.args.e c.in_ok-args.args None c.in-None.ensures c.in_ok-args.ensures
