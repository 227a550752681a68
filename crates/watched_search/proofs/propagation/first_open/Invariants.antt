use Rattle.std.proofs.Common.{◌≡◌, ℕ, ◌<◌, ◌≤◌, true, false, get_or}
use Rattle.watched_search.specs.declared.lists.Watch.{Watch}
use Rattle.watched_search.proofs.propagation.first_open.Given as goal

abbrev pub invariant-loop-i : goal.invariant-loop-i
invariant-loop-i l = (j : ℕ) (d : Watch) → l.from ≤ j → j < l.i → get_or l.truths (get_or l.watches j d).blocker false ≡ true
