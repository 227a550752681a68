use Rattle.tree_bounds.proofs.Lying.{each_range_lies}
use Rattle.tree_bounds.proofs.theorems.ranges_lie_within_their_bounds.Goals as goal

pub returns : goal.returns
returns c = each_range_lies
