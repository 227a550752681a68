use Rattle.std.proofs.Common.{◌∙◌}
use Rattle.function_rewriter.proofs.Applies.{match-off}
use Rattle.function_rewriter.proofs.applying.match_argument.Goals as goal

pub returns-in-Some-false-clause-test : goal.returns-in-Some-false-clause-test
returns-in-Some-false-clause-test c = match-off _ _ _ _ c.requires.below (λ a s. c.in-Some-false.ensures.value a s ∙ c.in-Some-false.field-0-test)
