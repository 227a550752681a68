use Rattle.std.proofs.Common.{◌≡◌, ℕ, ◌<◌, []}
use Rattle.refutation_checker.specs.Follows.{StepFollows}
use Rattle.refutation_checker.proofs.checking.check.Given as goal

abbrev pub invariant-loop-i : goal.invariant-loop-i
invariant-loop-i l = record {
  empty : l.trail ≡ [];
  follow : (k : ℕ) → k < l.i → StepFollows l.clauses l.steps k;
}
