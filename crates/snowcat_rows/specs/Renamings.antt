-- A type with other numbers for its variables. Source: the Apalache manual, "Type System 1.2" (type variables).
use Rattle.std.specs.Prelude.{ℕ, ◌≡◌, option_map}
use Rattle.snowcat_rows.specs.Types.{Term, Slot, var, con, app, fields, none, some}

-- the numbers of type variables and those of row variables
abbrev mutual
  pub renamed : (ℕ → ℕ) → (ℕ → ℕ) → Term → Term
  renamed f g (var v) = var (f v)
  renamed f g (con h) = con h
  renamed f g (app a b) = app (renamed f g a) (renamed f g b)
  renamed f g (fields h k) = fields (λ x. renamed_slot f g (h x)) (option_map g k)

  pub renamed_slot : (ℕ → ℕ) → (ℕ → ℕ) → Slot → Slot
  renamed_slot f g none = none
  renamed_slot f g (some t) = some (renamed f g t)

-- the type with its variables renamed
abbrev pub IsRenamed : Term → Term → Type 0
IsRenamed t u = (types rows : ℕ → ℕ) × (u ≡ renamed types rows t)

-- two types that differ in the numbers of their variables alone: each is the other with its variables renamed
abbrev pub Variants : Term → Term → Type 0
Variants t u = IsRenamed t u × IsRenamed u t
