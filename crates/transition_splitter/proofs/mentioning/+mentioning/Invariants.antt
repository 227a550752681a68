use Rattle.std.proofs.Common.{◌≡◌, drop}
use Rattle.std.specs.List.{list_any}
use Rattle.kernel_trees.specs.Paths.{mentions}
use Rattle.kernel_trees.specs.ActionNames.{marks}
use Rattle.transition_splitter.proofs.mentioning.+mentioning.Given as goal

abbrev pub invariant-any_mentions-loop-k : goal.invariant-any_mentions-loop-k
invariant-any_mentions-loop-k l =
    list_any (mentions (marks l.marked)) l.ks ≡ list_any (mentions (marks l.marked)) (drop l.k-index l.ks)
