-- Fields in whose types no operator type stands.
use Rattle.std.specs.Prelude.{ℕ, List}
use Rattle.snowcat_rows.specs.Types.{Slot}
use Rattle.snowcat_rows.specs.Throughout.{ThroughoutSlot}
use Rattle.snowcat_rows.specs.Operators.{IsNoOperator}

abbrev pub PlainSlot : Slot → Type 0
PlainSlot x = ThroughoutSlot (λ v. Unit {0}) IsNoOperator (λ k. Unit {0}) x

abbrev pub FieldsPlain : (List ℕ → Slot) → Type 0
FieldsPlain f = (name : List ℕ) → PlainSlot (f name)
