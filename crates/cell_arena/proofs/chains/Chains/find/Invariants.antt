use Rattle.cell_arena.proofs.PlaceLaws.{IsLeft}
use Rattle.cell_arena.proofs.chains.Chains.find.Given as goal

abbrev pub invariant-loop-place : goal.invariant-loop-place
invariant-loop-place l = IsLeft l.kinds l.kind l.place

abbrev pub decreases-loop-place : goal.decreases-loop-place
decreases-loop-place l = l.place
