-- Which modules are read from files.
use Rattle.std.specs.Prelude.{ℕ, Bool, List, not}
use Rattle.tla_meaning.specs.Flattening.{is_standard}
use Rattle.tla_meaning.specs.StandardModules.{standard_module}

abbrev pub is_file : List ℕ → Bool
is_file x = not (is_standard (standard_module x))
