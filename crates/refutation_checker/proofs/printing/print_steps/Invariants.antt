use Rattle.std.proofs.Common.{◌≡◌, ◌++◌, ◌∷◌, [], flat_map, take}
use Rattle.refutation_checker.specs.Certificate.{step_text}
use Rattle.refutation_checker.proofs.printing.print_steps.Given as goal

abbrev pub invariant-loop-s : goal.invariant-loop-s
invariant-loop-s l = l.out.items ≡ l.initial.out.items ++ flat_map (λ s. step_text s ++ 10 ∷ []) (take l.s-index l.steps)
