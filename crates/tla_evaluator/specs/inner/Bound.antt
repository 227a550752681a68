-- Bound names in a program.
use Rattle.std.specs.Prelude.{ℕ, false, List, map, Option, unwrap_or}
use Rattle.std.proofs.Common.{Bor}
use Rattle.std.specs.Option.{option_copied}
use Rattle.tla_values.specs.declared.value.Value.{Value}
use Rattle.tla_values.specs.declared.value.Value.TheVariants as value

abbrev pub binding : Bor (List ℕ) × Option (Bor Value) → List ℕ × Value
binding b = (b.0.now, unwrap_or (option_copied b.1) (value.Bool false))

abbrev pub bindings : List (Bor (List ℕ) × Option (Bor Value)) → List (List ℕ × Value)
bindings bs = map binding bs
