use Rattle.std.proofs.Common.{◌≡◌, [], None, take}
use Rattle.tla_meaning.specs.Flattening.{root_copy}
use Rattle.tla_meaning.specs.Symbols.{least_from}
use Rattle.flat_modules.specs.inner.Flat.{misuses_among}
use Rattle.flat_modules.specs.inner.Gathering.{Remembers}
use Rattle.flat_modules.proofs.gathering.Sources.misuse.Given as goal

abbrev pub invariant-loop-name : goal.invariant-loop-name
invariant-loop-name l =
    (l.told ≡ least_from None (misuses_among l.self.modules.now (take l.name-index l.self.modules.now))) × Remembers l.self.modules.now (root_copy [] []) l.memo
