-- Shapes whose numbers of members are no greater than the greatest that is kept.
use Rattle.std.specs.Prelude.{◌≡◌, ℕ, List, [], ◌∷◌}
use Rattle.kernel_shapes.specs.declared.bounds.Shape.{Shape as Code}
use Rattle.kernel_shapes.specs.Codes.{mean}
use Rattle.shape_bounds.specs.Kept.{capped}

abbrev pub IsKept : Code → Type 0
IsKept a = capped (mean a) ≡ mean a

abbrev pub AreKept : List Code → Type 0
AreKept [] = Unit {0}
AreKept (a ∷ as') = IsKept a × AreKept as'

abbrev pub AreFieldsKept : List (List ℕ × Code) → Type 0
AreFieldsKept [] = Unit {0}
AreFieldsKept (f ∷ fs) = IsKept f.1 × AreFieldsKept fs
