use Rattle.std.proofs.Common.{◌≡◌, drop}
use Rattle.kernel_reduction.specs.inner.Settings.{numbers_at}
use Rattle.kera_reducer.proofs.positions.numbers_at.Given as goal

abbrev pub invariant-loop-count : goal.invariant-loop-count
invariant-loop-count l = numbers_at l.counts l.child ≡ numbers_at (drop l.count-index l.counts) l.left
