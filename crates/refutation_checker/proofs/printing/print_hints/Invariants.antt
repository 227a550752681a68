use Rattle.std.proofs.Common.{◌≡◌, ◌++◌, flat_map, take}
use Rattle.std.specs.Prelude.{codes, decimal}
use Rattle.refutation_checker.proofs.printing.print_hints.Given as goal

abbrev pub invariant-loop-h : goal.invariant-loop-h
invariant-loop-h l = l.out.items ≡ l.initial.out.items ++ flat_map (λ h. decimal h ++ codes " ") (take l.h-index l.hints)
