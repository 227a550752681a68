use Rattle.std.proofs.Common.{ℕ, ◌<◌}
use Rattle.std.specs.Prelude.{Contains}
use Rattle.watch_chains.specs.Watches.{list_at}
use Rattle.base_tests.proofs.chains.is_free.Given as goal

abbrev pub invariant-loop-code : goal.invariant-loop-code
invariant-loop-code l = (k : ℕ) → k < l.code → Contains (list_at l.chains.lists k) l.l → ⊥
