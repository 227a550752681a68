-- How a list is kept by links in a ring, in which n stands behind the last number and before the first.
use Rattle.std.specs.Prelude.{◌≡◌, ℕ, zero, suc, ◌+◌, ◌<◌, ◌≤◌, ◌==◌, List, [], ◌∷◌, length, slice_index_or, if◌then◌else◌}

-- what stands behind `at`, until n comes again, and at most so many as the fuel
abbrev pub walk : List ℕ → ℕ → ℕ → ℕ → List ℕ
walk next n zero at = []
walk next n (suc fuel) at =
    if slice_index_or next at 0 == n then [] else slice_index_or next at 0 ∷ walk next n fuel (slice_index_or next at 0)

-- the links run through the items in both directions, and through n between the last and the first
pub record Linked (n : ℕ) (next prev items : List ℕ) : Type 0 where
  pub next_size : length next ≡ n + 1
  pub prev_size : length prev ≡ n + 1
  pub below : (i : ℕ) → i < length items → slice_index_or items i n < n
  pub apart : (i j : ℕ) → i < j → j < length items → slice_index_or items i n ≡ slice_index_or items j n → ⊥
  pub forward : (i : ℕ) → i ≤ length items → slice_index_or next (slice_index_or (n ∷ items) i n) 0 ≡ slice_index_or items i n
  pub back : (i : ℕ) → i ≤ length items → slice_index_or prev (slice_index_or items i n) 0 ≡ slice_index_or (n ∷ items) i n
