use Rattle.std.proofs.Common.{◌≡◌, ◌++◌, flat_map, take}
use Rattle.std.specs.Prelude.{codes}
use Rattle.refutation_checker.specs.Certificate.{lit_text}
use Rattle.refutation_checker.proofs.printing.print_lits.Given as goal

abbrev pub invariant-loop-l : goal.invariant-loop-l
invariant-loop-l l = l.out.items ≡ l.initial.out.items ++ flat_map (λ l. lit_text l ++ codes " ") (take l.l-index l.lits)
