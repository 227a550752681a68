use Rattle.std.proofs.Common.{◌≡◌, length}
use Rattle.kera_reducer.specs.inner.Standing.{nested}
use Rattle.kera_reducer.proofs.cases.nested.Given as goal

abbrev pub invariant-loop-guard : goal.invariant-loop-guard
invariant-loop-guard l =
    nested l.made.place l.made.ty.now l.arms.items l.rest ≡ nested l.fn.made.place l.fn.made.ty.now l.fn.arms.items l.fn.last

abbrev pub decreases-loop-guard : goal.decreases-loop-guard
decreases-loop-guard l = length l.arms.items
