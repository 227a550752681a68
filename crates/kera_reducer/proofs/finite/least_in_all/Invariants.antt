use Rattle.std.proofs.Common.{◌++◌, List, take, map, flat_map, false}
use Rattle.tla_meaning.specs.declared.place.Place.{Place}
use Rattle.kernel_reduction.specs.Infinite.{infinite_in}
use Rattle.kernel_reduction.specs.inner.Least.{IsLeast}
use Rattle.kera_reducer.proofs.finite.least_in_all.Given as goal

abbrev pub invariant-loop-inv : goal.invariant-loop-inv
invariant-loop-inv l =
    (ps : List Place) → IsLeast ps l.fn.least
    → IsLeast (ps ++ flat_map (λ e. infinite_in e false) (map (λ v. v.1) (take l.inv-index l.invs))) l.first
