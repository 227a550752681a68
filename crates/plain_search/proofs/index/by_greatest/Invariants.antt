use Rattle.std.proofs.Common.{◌≡◌, ℕ, ◌<◌, [], length, get_or, All}
use Rattle.std.specs.Prelude.{Contains}
use Rattle.plain_search.specs.inner.Index.{IsGreatest}
use Rattle.plain_search.proofs.index.by_greatest.Given as goal

abbrev pub invariant-loop-number : goal.invariant-loop-number
invariant-loop-number l = record {
  size : length l.index.items ≡ l.cnf.vars;
  within : All (All (λ k. k < length l.cnf.clauses)) l.index.items;
  each : (k v : ℕ) → k < l.number → v < length l.index.items → IsGreatest (get_or l.cnf.clauses k []) v → Contains (get_or l.index.items v []) k;
}
