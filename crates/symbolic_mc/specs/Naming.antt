-- The names of files and of their certificates.
use Rattle.std.specs.Prelude.{List, ℕ, ◌++◌, codes}
use Rattle.tla_values.specs.FileNames.{without_ending}

-- the certificate of a module's file: `.cert` in the place of `.tla` at the end, and behind the name where it does not
-- end so
abbrev pub certificate_name : List ℕ → List ℕ
certificate_name file = without_ending file ++ codes ".cert"
