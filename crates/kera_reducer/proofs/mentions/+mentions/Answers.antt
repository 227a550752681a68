use Rattle.std.proofs.Common.{◌∙◌, ap, sym}
use Rattle.kernel_reduction.specs.Reduction.{any_mentioned}
use Rattle.kera_reducer.proofs.NameTests.{mentioned_below, mentioned_name}
use Rattle.kera_reducer.proofs.mentions.+mentions.Goals as goal

pub mentions-returns-in-Name : goal.mentions-returns-in-Name
mentions-returns-in-Name t c = c.counts.ensures ∙ sym (mentioned_name c.args.assignable c.args.e.now _ _ c.in-Name.is)

pub mentions-returns-in_default : goal.mentions-returns-in_default
mentions-returns-in_default t c =
    c.any_mentions.ensures
    ∙ ap (any_mentioned c.args.assignable) c.as_slice.ensures
    ∙ mentioned_below c.args.assignable c.args.e.now c.in_default.not-Name
