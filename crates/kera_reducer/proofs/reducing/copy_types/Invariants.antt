use Rattle.std.proofs.Common.{◌≡◌, take}
use Rattle.kera_reducer.proofs.reducing.copy_types.Given as goal

abbrev pub invariant-loop-ty : goal.invariant-loop-ty
invariant-loop-ty l = l.copied.items ≡ take l.ty-index l.types
