use Rattle.std.proofs.Common.{take}
use Rattle.assignment_finder.specs.inner.Places.{IsEarliest}
use Rattle.assignment_finder.proofs.endless.earliest.Given as goal

abbrev pub invariant-loop-place : goal.invariant-loop-place
invariant-loop-place l = IsEarliest (take l.place-index l.places) l.first
