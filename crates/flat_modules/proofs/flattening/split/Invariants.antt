use Rattle.std.proofs.Common.{map}
use Rattle.flat_modules.specs.inner.Flat.{IsSplit}
use Rattle.flat_modules.specs.inner.Items.{item_of}
use Rattle.flat_modules.proofs.flattening.split.Given as goal

abbrev pub invariant-loop-item : goal.invariant-loop-item
invariant-loop-item l = IsSplit l.flat (map item_of l.yielded)
