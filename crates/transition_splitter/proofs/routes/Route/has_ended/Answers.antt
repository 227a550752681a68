use Rattle.std.proofs.Common.{◌∙◌}
use Rattle.transition_splitter.proofs.WalkSteps.{last_lent}
use Rattle.transition_splitter.proofs.routes.Route.has_ended.Goals as goal

pub returns-in-Some : goal.returns-in-Some
returns-in-Some c =
    c.ends.ensures
    ∙ last_lent c.args.self.now.steps.items c.as_slice.result.now c.in-Some.field-0-1.now c.in-Some.last.now
    c.as_slice.ensures.value
    c.in-Some.ensures.cases.0
