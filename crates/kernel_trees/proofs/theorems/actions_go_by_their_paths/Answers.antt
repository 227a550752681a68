use Rattle.kernel_trees.proofs.Law.{for_assign, for_picks, for_split}
use Rattle.kernel_trees.proofs.theorems.actions_go_by_their_paths.Goals as goal

pub returns-clause-picks : goal.returns-clause-picks
returns-clause-picks c = λ w m k B sc s t h. for_picks w m k B h sc s t

pub returns-clause-split : goal.returns-clause-split
returns-clause-split c = λ w m n k B sc s t h. for_split w m k B h.0 sc s t n h.1

pub returns-clause-assigned : goal.returns-clause-assigned
returns-clause-assigned c = λ w m n k B sc s t h. for_assign w m k B h.0 sc s t n h.1
