use Rattle.std.proofs.Common.{◌≡◌, map, take}
use Rattle.tla_meaning.specs.Scopes.{find_last}
use Rattle.kernel_trees.specs.Trees.{number_name}
use Rattle.shape_bounds.specs.Sizes.{bound_name}
use Rattle.shape_bounds.proofs.names.last_bound.Given as goal

abbrev pub invariant-loop-i : goal.invariant-loop-i
invariant-loop-i l = find_last (number_name l.number) (map bound_name l.bound) ≡ find_last (number_name l.number) (map bound_name (take l.i l.bound))
