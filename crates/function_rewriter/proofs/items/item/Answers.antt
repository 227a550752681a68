use Rattle.function_rewriter.proofs.Composites.{is-item}
use Rattle.function_rewriter.proofs.items.item.Goals as goal

pub returns : goal.returns
returns c = is-item c.args.b.now c.args.t c.args.i _ c.requires (c.part_at.ensures.part c.part_at.result)
