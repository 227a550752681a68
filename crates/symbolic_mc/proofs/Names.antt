-- The names of files without their ending.
use Rattle.std.proofs.Common.{◌≡◌, ℕ, List, ◌++◌, sym, ◌∙◌, ap}
use Rattle.std.specs.Prelude.{codes}
use Rattle.tla_values.specs.FileNames.{without_ending}
use Rattle.tla_values.proofs.FileLemmas.{ending_there}

pub ending_left : (file stem front : List ℕ) → file ≡ front ++ codes ".tla" → stem ≡ front → stem ≡ without_ending file
ending_left file stem front whole same = same ∙ sym (ap without_ending whole ∙ ending_there front)
