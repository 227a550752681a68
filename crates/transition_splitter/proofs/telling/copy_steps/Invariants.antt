use Rattle.std.proofs.Common.{◌≡◌, map, take}
use Rattle.kernel_trees.specs.Paths.{step_of}
use Rattle.transition_splitter.specs.inner.Routes.{step_lent}
use Rattle.transition_splitter.proofs.telling.copy_steps.Given as goal

abbrev pub invariant-loop-step : goal.invariant-loop-step
invariant-loop-step l = l.copied.items ≡ map step_of (map step_lent (take l.step-index l.steps))
