use Rattle.std.proofs.Common.{◌≡◌, ℕ, ◌+◌, ◌<◌, length, get_or}
use Rattle.decision_queue.proofs.queue.leaders.Given as goal

abbrev pub invariant-loop-i : goal.invariant-loop-i
invariant-loop-i l = record { size : length l.v.items ≡ l.i + 1; first : get_or l.v.items 0 0 ≡ l.n; each : (k : ℕ) → k < l.i → get_or l.v.items (k + 1) 0 ≡ k }
