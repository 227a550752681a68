use Rattle.std.proofs.Common.{List}
use Rattle.kernel_shapes.specs.Counts.{Count}
use Rattle.kernel_shapes.specs.Shape.{Shape}
use Rattle.kernel_shapes.specs.Systems.{system_parts}
use Rattle.shape_bounds.specs.inner.Climbing.{IsAt}
use Rattle.shape_bounds.specs.inner.Stage.{IsOf}
use Rattle.shape_bounds.proofs.stages.levels_from.Given as goal

abbrev pub invariant-loop : goal.invariant-loop
invariant-loop l = (as' : List Shape) (cs : List Count) → IsOf l.fn.start as' cs → IsAt (system_parts l.width l.system) cs as' l.counter l.made.items l.last
