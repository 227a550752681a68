use Rattle.std.proofs.Common.{List}
use Rattle.kernel_shapes.specs.Counts.{Count}
use Rattle.kernel_shapes.specs.Shape.{Shape}
use Rattle.kernel_shapes.specs.Systems.{system_parts}
use Rattle.shape_bounds.specs.inner.Climbing.{IsAt}
use Rattle.shape_bounds.specs.inner.Stage.{IsOf}
use Rattle.shape_bounds.proofs.stages.climb_from.Given as goal

abbrev pub invariant-loop-number : goal.invariant-loop-number
invariant-loop-number l = (as' : List Shape) (cs : List Count) → IsOf l.fn.start as' cs → IsAt (system_parts l.width l.system) cs as' l.number l.before.items l.last
