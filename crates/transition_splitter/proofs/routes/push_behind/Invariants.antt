use Rattle.std.proofs.Common.{◌≡◌, ◌++◌, map, take}
use Rattle.kernel_trees.specs.Ways.{one_after}
use Rattle.transition_splitter.specs.inner.Routes.{way, ways_by}
use Rattle.transition_splitter.proofs.routes.push_behind.Given as goal

abbrev pub invariant-loop-second : goal.invariant-loop-second
invariant-loop-second l =
    ways_by l.made.items ≡ ways_by l.initial.made.items
    ++ map (one_after (way l.first)) (ways_by (take l.second-index l.seconds))
