use Rattle.std.proofs.Common.{map, take}
use Rattle.snowcat_types.specs.inner.Named.{GatheringNamed}
use Rattle.snowcat_types.specs.inner.Visiting.{AddsParts}
use Rattle.snowcat_types.proofs.trees.Gathering.add_invariants.Given as goal

abbrev pub invariant-loop-inv : goal.invariant-loop-inv
invariant-loop-inv l = record {
  added : AddsParts l.fn.self l.self (map (λ v. v.1) (take l.inv-index l.invs));
  named : GatheringNamed l.fn.self → GatheringNamed l.self;
}
