use Rattle.std.proofs.Common.{ℕ, ◌<◌, ◌≤◌, get_or}
use Rattle.sat_formula.specs.declared.lit.Lit.{Lit}
use Rattle.plain_search.specs.inner.Index.{IsGreatest}
use Rattle.plain_search.proofs.index.greatest.Given as goal

abbrev pub invariant-loop-lit : goal.invariant-loop-lit
invariant-loop-lit l = record {
  bound : (v : ℕ) → IsGreatest l.clause v → l.greatest ≤ v;
  seen : (k : ℕ) (d : Lit) → k < l.lit-index → (get_or l.lit-items k d).var ≤ l.greatest;
}
