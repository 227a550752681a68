use Rattle.std.proofs.Common.{◌≡◌, ℕ, suc, ◌-◌, get_or, length}
use Rattle.snowcat_rows.proofs.places.write.Given as goal

abbrev pub invariant-loop-xs : goal.invariant-loop-xs
invariant-loop-xs l = (j : ℕ) → get_or l.xs.items j 0 ≡ get_or l.initial.xs.items j 0

abbrev pub decreases-loop-xs : goal.decreases-loop-xs
decreases-loop-xs l = suc l.at - length l.xs.items
