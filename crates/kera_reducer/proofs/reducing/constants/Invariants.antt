use Rattle.std.proofs.Common.{◌≡◌, map, take}
use Rattle.kera_reducer.proofs.reducing.constants.Given as goal

abbrev pub invariant-loop-name : goal.invariant-loop-name
invariant-loop-name l = l.fixed.items ≡ map (λ d. d.constant) (take l.name-index l.names)
