use Rattle.std.proofs.Common.{◌≡◌, map, take}
use Rattle.kernel_shapes.specs.Sized.{Extent}
use Rattle.path_bounds.specs.inner.Walking.{IsAt, with_set}
use Rattle.path_bounds.proofs.walk.Walk.sets.Given as goal

abbrev pub invariant-loop-i : goal.invariant-loop-i
invariant-loop-i l = (g : Extent) → IsAt l.self g → l.trees.items ≡ map (with_set l.self.width g) (take l.i l.sets)
