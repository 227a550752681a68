use Rattle.std.proofs.Common.{◌≡◌, map, take}
use Rattle.tla_meaning.specs.Flattening as flat
use Rattle.flat_modules.specs.inner.Items.{item_of}
use Rattle.flat_modules.proofs.knowing.declarations.Given as goal

abbrev pub invariant-loop-d : goal.invariant-loop-d
invariant-loop-d l = map item_of l.items.items ≡ map flat.Declares (take l.d-index l.decls)
