-- A place in a text of lines.
use Rattle.std.specs.Prelude.{ℕ, List}

-- the bytes that are left, and how many lines stand before them
pub record Place : Type 0 where
  pub rest : List ℕ
  pub taken : ℕ
