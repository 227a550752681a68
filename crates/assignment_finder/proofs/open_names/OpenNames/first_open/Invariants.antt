use Rattle.std.proofs.Common.{◌≡◌, ℕ, false, true, nat_lt, IsTrue}
use Rattle.assignment_finder.specs.inner.Open.{open_by}
use Rattle.assignment_finder.proofs.open_names.OpenNames.first_open.Given as goal

abbrev pub invariant-loop-name : goal.invariant-loop-name
invariant-loop-name l = (j : ℕ) → IsTrue (nat_lt j l.name) → open_by l.self j true ≡ false
