-- Types whose variables are numbered below a limit, part by part.
use Rattle.std.specs.Prelude.{ℕ, ◌<◌, List, Option, Some, None}
use Rattle.snowcat_rows.specs.Types.{Term, Slot}
use Rattle.snowcat_rows.specs.Throughout.{Throughout, ThroughoutSlot}

abbrev pub EndBelow : ℕ → Option ℕ → Type 0
EndBelow n None = Unit {0}
EndBelow n (Some r) = r < n

abbrev pub Below : ℕ → Term → Type 0
Below n t = Throughout (λ v. v < n) (λ h. Unit {0}) (EndBelow n) t

abbrev pub BelowSlot : ℕ → Slot → Type 0
BelowSlot n x = ThroughoutSlot (λ v. v < n) (λ h. Unit {0}) (EndBelow n) x

abbrev pub FieldsBelow : ℕ → (List ℕ → Slot) → Type 0
FieldsBelow n f = (name : List ℕ) → BelowSlot n (f name)
