use Rattle.std.proofs.Common.{◌≡◌, map, take}
use Rattle.kernel_trees.specs.Paths.{path_of}
use Rattle.transition_splitter.specs.inner.Routes.{ways_by}
use Rattle.transition_splitter.proofs.telling.tell_all.Given as goal

abbrev pub invariant-loop-route : goal.invariant-loop-route
invariant-loop-route l = l.paths.items ≡ map (path_of l.action) (ways_by (take l.route-index l.routes))
