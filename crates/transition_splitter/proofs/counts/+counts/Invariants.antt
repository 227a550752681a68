use Rattle.std.proofs.Common.{◌≡◌, map, take}
use Rattle.kernel_trees.specs.Paths.{ends_at, ways}
use Rattle.kernel_trees.specs.Ways.{all_of, any_of}
use Rattle.kernel_trees.specs.ActionNames.{marks}
use Rattle.transition_splitter.specs.inner.Counts.{tally}
use Rattle.transition_splitter.specs.inner.Routes.{rooted}
use Rattle.transition_splitter.proofs.counts.+counts.Given as goal

abbrev pub invariant-count_all-loop-k : goal.invariant-count_all-loop-k
invariant-count_all-loop-k l = l.whole ≡ tally (all_of ends_at (map (ways (marks l.marked)) (take l.k-index l.ks)))

abbrev pub invariant-count_any-loop-k : goal.invariant-count_any-loop-k
invariant-count_any-loop-k l = l.whole ≡ tally (any_of (map (rooted (marks l.marked)) (take l.k-index l.ks)))
