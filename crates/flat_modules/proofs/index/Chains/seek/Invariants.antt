use Rattle.std.proofs.Common.{◌%◌, length, take}
use Rattle.flat_modules.specs.inner.Places.{place_of}
use Rattle.flat_modules.proofs.Places.{IsAt}
use Rattle.flat_modules.proofs.index.Chains.seek.Given as goal

abbrev pub invariant-loop-place : goal.invariant-loop-place
invariant-loop-place l =
    let n = length l.self.heads.items in
    IsAt (λ x. x % n) (place_of l.key) (place_of l.key (take l.from l.keys)) (l.key % n) l.keys l.place

abbrev pub decreases-loop-place : goal.decreases-loop-place
decreases-loop-place l = l.place
