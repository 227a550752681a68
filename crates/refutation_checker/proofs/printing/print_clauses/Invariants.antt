use Rattle.std.proofs.Common.{◌≡◌, ◌++◌, ◌∷◌, [], flat_map, take}
use Rattle.refutation_checker.specs.Certificate.{clause_text}
use Rattle.refutation_checker.proofs.printing.print_clauses.Given as goal

abbrev pub invariant-loop-c : goal.invariant-loop-c
invariant-loop-c l = l.out.items ≡ l.initial.out.items ++ flat_map (λ c. clause_text c ++ 10 ∷ []) (take l.c-index l.clauses)
