use Rattle.std.proofs.Common.{◌≡◌, ◌∷◌, ◌++◌, [], All, length, flat_map}
use Rattle.std.specs.Prelude.{decimal}
use Rattle.refutation_checker.specs.Certificate.{IsHint}
use Rattle.refutation_checker.proofs.words.hints.Given as goal

abbrev pub invariant-words : goal.invariant-words
invariant-words l = record {
  fit : All IsHint l.hints.items;
  read : l.initial.text ≡ flat_map (λ x. decimal x ++ 32 ∷ []) l.hints.items ++ l.rest;
}

abbrev pub decreases-words : goal.decreases-words
decreases-words l = length l.rest
