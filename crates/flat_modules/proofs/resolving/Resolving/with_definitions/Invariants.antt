use Rattle.std.proofs.Common.{◌≡◌, drop, map, take}
use Rattle.tla_meaning.specs.Flattening.{with_misuses}
use Rattle.flat_modules.specs.inner.Instances.{with_item}
use Rattle.flat_modules.specs.inner.Items.{item_of}
use Rattle.flat_modules.specs.inner.Learning.{Remains}
use Rattle.flat_modules.proofs.resolving.Resolving.with_definitions.Given as goal

abbrev pub invariant-loop-i : goal.invariant-loop-i
invariant-loop-i l =
    Remains l.initial.self l.self (with_misuses l.place l.initial.self.scope l.inside l.with) (with_misuses l.place l.initial.self.scope l.inside (drop l.i l.with))
    × (map item_of l.items.items ≡ map (with_item l.prefix l.initial.self.scope) (take l.i l.with))
