use Rattle.std.proofs.Common.{◌≡◌, ◌++◌, map, flat_map, take}
use Rattle.system_texts.specs.inner.Gathered.{step_texts}
use Rattle.system_texts.proofs.gathering.push_path.Given as goal

abbrev pub invariant-loop-step : goal.invariant-loop-step
invariant-loop-step l = map (λ t. t.now) l.out.items ≡ map (λ t. t.now) l.fn.out.items ++ flat_map step_texts (take l.step-index l.path.steps)
