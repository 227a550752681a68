use Rattle.std.proofs.Common.{◌≡◌, ℕ, ◌+◌, ◌<◌, not, take, count_by}
use Rattle.std.specs.List.{HoldsAt}
use Rattle.refutation_checker.specs.Rechecking.{StepsFollow}
use Rattle.refutation_checker.proofs.rechecking.check_sections.Given as goal

abbrev pub invariant-loop-i : goal.invariant-loop-i
invariant-loop-i l = record {
  follow : (j : ℕ) → j < l.i → HoldsAt StepsFollow l.sections j;
  refuted : l.refuted ≡ count_by (λ s. not s.is_open) (take l.i l.sections);
  left_open : l.left_open ≡ count_by (λ s. s.is_open) (take l.i l.sections);
  few : l.refuted + l.left_open ≡ l.i;
}
