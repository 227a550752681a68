-- Values of several types.
use Rattle.std.specs.Prelude.{List, [], ◌∷◌}
use Rattle.snowcat_rows.specs.declared.types.Ty.{Ty}
use Rattle.snowcat_rows.specs.Types.{mean}
use Rattle.snowcat_rows.specs.Values.{HasType}
use Rattle.tla_values.specs.declared.value.Value.{Value}

-- a value of each of the types, in their order
abbrev pub HaveTypes : List Ty → List Value → Type 0
HaveTypes [] [] = Unit {0}
HaveTypes [] (v ∷ vs) = ⊥
HaveTypes (t ∷ ts) [] = ⊥
HaveTypes (t ∷ ts) (v ∷ vs) = HasType v (mean t) × HaveTypes ts vs
