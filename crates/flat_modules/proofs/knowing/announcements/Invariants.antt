use Rattle.std.proofs.Common.{◌≡◌, take}
use Rattle.tla_meaning.specs.Flattening.{announcements}
use Rattle.flat_modules.proofs.knowing.announcements.Given as goal

abbrev pub invariant-loop-name : goal.invariant-loop-name
invariant-loop-name l = l.entries.items ≡ announcements l.scope (take l.name-index l.names)
