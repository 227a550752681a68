-- Lists of distinct numbers.
use Rattle.std.specs.Prelude.{ℕ, ◌==◌, not, List, filter}

-- a list of distinct numbers below `room`
pub record Queue : Type 0 where
  pub room : ℕ
  pub items : List ℕ

-- the list with v taken out
abbrev pub without : ℕ → List ℕ → List ℕ
without v items = filter (λ x. not (x == v)) items
