use Rattle.std.proofs.Common.{◌≡◌, take}
use Rattle.tla_modules.specs.Sources.{files_of}
use Rattle.tla_modules.proofs.resolving.files_of.Given as goal

abbrev pub invariant-loop-name : goal.invariant-loop-name
invariant-loop-name l = l.files.items ≡ files_of l.root (take l.name-index l.modules)
