use Rattle.std.proofs.Common.{◌∙◌, ap}
use Rattle.std.proofs.lemmas.Bool.{leb-true}
use Rattle.tla_meaning.specs.Scopes.{find_last}
use Rattle.flat_modules.proofs.Visited.{walked_before}
use Rattle.flat_modules.proofs.aliases.Behind.is_walked.Goals as goal

pub returns-in-Some : goal.returns-in-Some
returns-in-Some c = λ ms behind le.
    walked_before ms c.args.self.now c.args.name.now c.args.depth c.in-Some.walked.now behind
    (c.in-Some.ensures ∙ ap (λ x. find_last x c.deref.result.now) c.bytes.ensures ∙ ap (find_last c.args.name.now) c.deref.ensures.value)
    (leb-true c.args.depth c.in-Some.walked.now le)
