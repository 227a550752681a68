use Rattle.std.proofs.Common.{◌≡◌, ◌∷◌, ◌++◌, [], All, length, flat_map}
use Rattle.sat_formula.specs.Lit.{IsBelow}
use Rattle.refutation_checker.specs.Certificate.{lit_text}
use Rattle.refutation_checker.proofs.words.lits.Given as goal

abbrev pub invariant-words : goal.invariant-words
invariant-words l = record {
  fit : All (IsBelow l.vars) l.lits.items;
  read : l.initial.text ≡ flat_map (λ x. lit_text x ++ 32 ∷ []) l.lits.items ++ l.rest;
}

abbrev pub decreases-words : goal.decreases-words
decreases-words l = length l.rest
