use Rattle.std.proofs.Common.{◌≡◌}
use Rattle.kernel_trees.specs.Paths.{ends_at}
use Rattle.kernel_trees.specs.Ways.{after_each}
use Rattle.transition_splitter.specs.inner.Routes.{ways_by}
use Rattle.transition_splitter.proofs.routes.each_after.Given as goal

abbrev pub invariant-loop-first : goal.invariant-loop-first
invariant-loop-first l =
    ways_by l.made.items ≡ after_each ends_at (ways_by l.yielded) (ways_by l.seconds)
