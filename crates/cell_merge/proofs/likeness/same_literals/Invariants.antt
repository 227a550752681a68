use Rattle.std.proofs.Common.{◌≡◌, take}
use Rattle.cell_merge.proofs.likeness.same_literals.Given as goal

abbrev pub invariant-loop-i : goal.invariant-loop-i
invariant-loop-i l = take l.i l.v ≡ take l.i l.w
