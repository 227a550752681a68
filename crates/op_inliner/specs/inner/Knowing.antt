-- Scopes that grow.
use Rattle.std.specs.Prelude.{◌≡◌, ◌++◌}
use Rattle.op_inliner.specs.Known.{Arities}

-- a scope with more behind it
pub record Begins (old new : Arities) : Type 0 where
  pub rest : Arities
  pub is : new ≡ old ++ rest
