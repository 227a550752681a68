use Rattle.std.proofs.Common.{◌≡◌, ◌++◌, drop, flat_map}
use Rattle.kernel_trees.specs.Sound.{infinite_places}
use Rattle.assignment_finder.proofs.endless.+endless.Given as goal

abbrev pub invariant-push_all-loop-i : goal.invariant-push_all-loop-i
invariant-push_all-loop-i l =
    l.out.items ++ flat_map infinite_places (drop l.i l.ks) ≡ l.initial.out.items ++ flat_map infinite_places (drop l.from l.ks)
