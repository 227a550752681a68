use Rattle.std.proofs.Common.{◌≡◌, map, take}
use Rattle.tla_meaning.specs.Flattening.{declared}
use Rattle.flat_modules.specs.inner.Copies.{copy_of}
use Rattle.flat_modules.proofs.knowing.declared_names.Given as goal

abbrev pub invariant-loop-d : goal.invariant-loop-d
invariant-loop-d l = l.names.items ≡ map (declared (copy_of l.copy)) (take l.d-index l.decls)
