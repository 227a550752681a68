use Rattle.std.proofs.Common.{◌≡◌, take}
use Rattle.std.specs.List.{flat_map}
use Rattle.flat_modules.specs.inner.Orders.{aliases_at}
use Rattle.flat_modules.proofs.gathering.Sources.aliases.Given as goal

abbrev pub invariant-loop-name : goal.invariant-loop-name
invariant-loop-name l = l.aliases.items ≡ flat_map (aliases_at l.self.modules.now) (take l.name-index l.name-items)
