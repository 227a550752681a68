-- Parts of a type.
use Rattle.std.specs.Prelude.{ℕ, ◌≡◌, ◌⊎◌, List}
use Rattle.snowcat_rows.specs.Types.{Term, Slot, var, con, app, fields, none, some}

-- a part of a type, other than itself
abbrev mutual
  pub Part : Term → Term → Type 0
  Part x (var v) = ⊥
  Part x (con h) = ⊥
  Part x (app a b) = ((x ≡ a) ⊎ Part x a) ⊎ ((x ≡ b) ⊎ Part x b)
  Part x (fields f k) = (n : List ℕ) × PartSlot x (f n)

  pub PartSlot : Term → Slot → Type 0
  PartSlot x none = ⊥
  PartSlot x (some t) = (x ≡ t) ⊎ Part x t

-- a part of a type, or itself
abbrev pub IsPart : Term → Term → Type 0
IsPart x a = (x ≡ a) ⊎ Part x a
