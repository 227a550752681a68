use Rattle.std.proofs.Common.{◌≡◌, map, take}
use Rattle.kernel_shapes.specs.Codes.{mean}
use Rattle.shape_bounds.specs.inner.Joined.{joined_one}
use Rattle.shape_bounds.proofs.updates.join_item.Given as goal

abbrev pub invariant-loop-i : goal.invariant-loop-i
invariant-loop-i l = map mean l.joined.items ≡ take l.i (joined_one l.place (mean l.new) (map mean l.items))
