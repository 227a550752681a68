-- What a type is at its root under a substitution.
use Rattle.std.specs.Prelude.{ℕ, ◌≡◌}
use Rattle.snowcat_rows.specs.Types.{Term, var}
use Rattle.snowcat_rows.specs.Substitutions.{Sub, apply}

-- r is t with its root followed: the two are equal under s, and where r is a variable, s leaves it as it is
pub record IsRoot (s : Sub) (t r : Term) : Type 0 where
  pub equal : apply s r ≡ apply s t
  pub last : (v : ℕ) → r ≡ var v → s.type_of v ≡ var v
