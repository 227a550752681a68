-- Names that are bound around a tree, as a list.
use Rattle.std.specs.Prelude.{ℕ, Bool, false, List, [], get_or, if◌then◌else◌}
use Rattle.std.specs.List.{list_any}
use Rattle.tla_meaning.specs.Scopes.{same_text}

abbrev pub among : List (List ℕ) → List ℕ → Bool
among xs x = list_any (same_text x) xs

-- the names that a node binds in its i-th child
abbrev pub names_in : List (List ℕ) → List Bool → ℕ → List (List ℕ)
names_in xs ms i = if get_or ms i false then xs else []
