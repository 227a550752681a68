use Rattle.std.proofs.Common.{◌∙◌, ap}
use Rattle.function_rewriter.proofs.KnownValues.{texts-later}
use Rattle.rewriting_tests.proofs.settings.begun.Goals as goal

pub returns : goal.returns
returns c = texts-later _ _ c.in_ok-free_literals.ensures ∙ ap (λ a. a.texts) c.in_ok-b.ensures.arena
