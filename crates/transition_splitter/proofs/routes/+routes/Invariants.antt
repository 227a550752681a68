use Rattle.std.proofs.Common.{◌≡◌, map, take}
use Rattle.kernel_trees.specs.Paths.{ends_at, ways}
use Rattle.kernel_trees.specs.Ways.{all_of, any_of}
use Rattle.kernel_trees.specs.ActionNames.{marks}
use Rattle.transition_splitter.specs.inner.Routes.{rooted, ways_by}
use Rattle.transition_splitter.proofs.routes.+routes.Given as goal

abbrev pub invariant-of_all-loop-k : goal.invariant-of_all-loop-k
invariant-of_all-loop-k l = ways_by l.made.items ≡ all_of ends_at (map (ways (marks l.marked)) (take l.k-index l.ks))

abbrev pub invariant-of_any-loop-k : goal.invariant-of_any-loop-k
invariant-of_any-loop-k l = ways_by l.made.items ≡ any_of (map (rooted (marks l.marked)) (take l.k-index l.ks))
