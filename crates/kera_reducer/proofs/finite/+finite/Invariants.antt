use Rattle.std.proofs.Common.{◌++◌, List, take}
use Rattle.tla_meaning.specs.declared.place.Place.{Place}
use Rattle.kernel_reduction.specs.inner.Least.{IsLeast}
use Rattle.kernel_reduction.proofs.Places.{so_far}
use Rattle.kera_reducer.proofs.finite.+finite.Given as goal

abbrev pub invariant-loop-i : goal.invariant-loop-i
invariant-loop-i l = (ps : List Place) → IsLeast ps l.fn.least → IsLeast (ps ++ so_far l.e l.form (take l.i l.trees)) l.first
