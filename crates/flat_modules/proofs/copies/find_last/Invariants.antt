use Rattle.std.proofs.Common.{◌≡◌, ◌≤◌, take, length}
use Rattle.tla_meaning.specs.Scopes.{find_last}
use Rattle.flat_modules.proofs.copies.find_last.Given as goal

abbrev pub invariant-loop-i : goal.invariant-loop-i
invariant-loop-i g l = (l.i ≤ length l.items) × (find_last l.name (take l.i l.items) ≡ find_last l.name l.items)

abbrev pub decreases-loop-i : goal.decreases-loop-i
decreases-loop-i g l = l.i
