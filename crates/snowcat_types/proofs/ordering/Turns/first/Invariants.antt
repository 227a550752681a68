use Rattle.std.proofs.Common.{◌≡◌, ◌-◌, length}
use Rattle.snowcat_types.specs.inner.Awaited.{ArePassed}
use Rattle.snowcat_types.proofs.ordering.Turns.first.Given as goal

abbrev pub invariant-cursor : goal.invariant-cursor
invariant-cursor l = record {
  same : l.self.all ≡ l.initial.self.all;
  passed : ArePassed l.marks l.self.all.items l.self.passed;
}

abbrev pub decreases-cursor : goal.decreases-cursor
decreases-cursor l = length l.self.all.items - l.self.passed
