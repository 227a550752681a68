-- How many levels an encoder has.
use Rattle.std.proofs.Common.{◌≡◌, ◌∙◌, ◌+◌, ℕ, [], ◌∷◌, ap, length, length-append}
use Rattle.step_encoder.specs.Encoders.{AddsLevel}
use Rattle.step_encoder.specs.declared.encoder.Encoder.{Encoder}

pub levels_more : (old new : Encoder) (n : ℕ) → length old.levels ≡ n → AddsLevel old new → length new.levels ≡ n + 1
levels_more old new n count adds = ap length adds.levels ∙ length-append old.levels (adds.level ∷ []) ∙ ap (λ (k : ℕ). k + 1) count
