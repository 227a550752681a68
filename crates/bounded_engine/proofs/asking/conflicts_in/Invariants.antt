use Rattle.std.proofs.Common.{◌≡◌, take}
use Rattle.bounded_engine.specs.Sections.{conflicts_in}
use Rattle.bounded_engine.proofs.asking.conflicts_in.Given as goal

abbrev pub invariant-loop-step : goal.invariant-loop-step
invariant-loop-step l = l.count ≡ conflicts_in (take l.step-index l.log)
