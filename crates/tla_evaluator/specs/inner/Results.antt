-- What the calls answer.
use Rattle.std.specs.Prelude.{List, [], ◌∷◌, ◌++◌}
use Rattle.tla_values.specs.declared.value.Value.{Value}

-- the items of all lists
abbrev pub all_of : List (List Value) → List Value
all_of [] = []
all_of (xs ∷ xss) = xs ++ all_of xss
