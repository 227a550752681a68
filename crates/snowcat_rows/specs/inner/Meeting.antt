-- Variables as they are met: each that was not met before stands behind those that were.
use Rattle.std.specs.Prelude.{List, [], ◌∷◌, if◌then◌else◌}
use Rattle.snowcat_rows.specs.declared.occurrences.Unknown.{Unknown}
use Rattle.snowcat_rows.specs.Numbered.{same_variable}

abbrev pub met : List Unknown → Unknown → List Unknown
met [] v = v ∷ []
met (w ∷ ws) v = if same_variable w v then w ∷ ws else w ∷ met ws v

abbrev pub all_met : List Unknown → List Unknown → List Unknown
all_met ks [] = ks
all_met ks (v ∷ vs) = all_met (met ks v) vs
