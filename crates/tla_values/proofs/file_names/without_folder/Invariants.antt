use Rattle.std.proofs.Common.{◌≡◌, drop, false}
use Rattle.std.specs.List.{list_any}
use Rattle.tla_values.specs.FileNames.{is_slash}
use Rattle.tla_values.proofs.file_names.without_folder.Given as goal

abbrev pub invariant-loop-at : goal.invariant-loop-at
invariant-loop-at l = list_any is_slash (drop l.at l.file) ≡ false
