use Rattle.std.proofs.Common.{[], take}
use Rattle.kernel_trees.specs.Paths.{Marks}
use Rattle.assignment_finder.specs.inner.Open.{IsOpen}
use Rattle.assignment_finder.specs.inner.Steps.{IsWalked}
use Rattle.assignment_finder.proofs.finder.mark_all.Given as goal

abbrev pub invariant-loop-step : goal.invariant-loop-step
invariant-loop-step l = (m : Marks) → IsOpen m [] l.fn.free → IsWalked m (take l.step-index l.steps) l.found.items l.free
