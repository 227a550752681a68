use Rattle.function_rewriter.proofs.Composites.{sets-item}
use Rattle.function_rewriter.proofs.items.with_item.Goals as goal

pub returns-clause-made : goal.returns-clause-made
returns-clause-made c = sets-item _ _ _ _ _ _ c.requires.item c.in_ok-made.ensures.made c.in_ok-made.ensures.grows
