use Rattle.std.proofs.Common.{◌≡◌, ◌^◌}
use Rattle.shape_bounds.specs.Kept.{kept}
use Rattle.shape_bounds.proofs.numbers.power_step_by_step.Given as goal

abbrev pub invariant-loop : goal.invariant-loop
invariant-loop l = l.made ≡ kept (l.base ^ l.counter)
