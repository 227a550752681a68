use Rattle.std.proofs.Common.{map, take}
use Rattle.kera_reducer.specs.inner.Parts.{ArePartsBuilt}
use Rattle.kera_reducer.proofs.reducing.invariants.Given as goal

abbrev pub invariant-loop-i : goal.invariant-loop-i
invariant-loop-i l = ArePartsBuilt (map (λ v. v.1) (take l.i l.invs)) (take l.i l.types) l.trees.items
