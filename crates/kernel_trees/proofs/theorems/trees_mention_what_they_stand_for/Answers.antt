use Rattle.kernel_trees.proofs.Mentions.{holds_is}
use Rattle.kernel_trees.proofs.theorems.trees_mention_what_they_stand_for.Goals as goal

pub returns : goal.returns
returns c = holds_is
