use Rattle.std.proofs.Common.{◌≡◌, ℕ, ◌≤◌, List, ◌∷◌, ◌++◌, flat_map, length}
use Rattle.tla_values.specs.Show.{escaped}
use Rattle.trace_text.proofs.QuotedBytes.{Left}
use Rattle.trace_text.proofs.texts.text.Given as goal

abbrev pub invariant-text : goal.invariant-text
invariant-text l = record {
  reads : (t r : List ℕ) → l.initial.rest ≡ flat_map escaped t ++ 34 ∷ r → Left l.out.items l.rest t r;
  shorter : length l.rest ≤ length l.initial.rest;
}

abbrev pub decreases-text : goal.decreases-text
decreases-text l = length l.rest
