use Rattle.std.proofs.Common.{◌∙◌, sym}
use Rattle.assignment_finder.proofs.Walking.{ended_last}
use Rattle.assignment_finder.proofs.finder.has_ended.Goals as goal

pub returns-in-Some : goal.returns-in-Some
returns-in-Some c = c.is_ended.ensures ∙ sym (ended_last c.args.steps.now _ (sym c.in-Some.ensures.value))
