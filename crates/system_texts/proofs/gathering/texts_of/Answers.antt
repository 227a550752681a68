use Rattle.std.proofs.Common.{map, rules}
use Rattle.system_texts.proofs.AllTexts.{gathered_texts}
use Rattle.system_texts.proofs.gathering.texts_of.Goals as goal

pub returns-clause-texts : goal.returns-clause-texts
returns-clause-texts c =
    gathered_texts c.in_ok-texts.texts c.args.system.now (map (λ t. t.now) c.as_slice.result.now) c.from_vec-empty.result (search rules) (search rules) c.in_ok-texts.ensures.among
