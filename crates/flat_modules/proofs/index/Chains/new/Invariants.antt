use Rattle.std.proofs.Common.{◌≡◌, length, take}
use Rattle.flat_modules.specs.inner.Places.{AreChains}
use Rattle.flat_modules.proofs.index.Chains.new.Given as goal

abbrev pub invariant-loop-key : goal.invariant-loop-key
invariant-loop-key l = AreChains (take l.key-index l.keys) l.chains × (length l.chains.heads.items ≡ l.size)
