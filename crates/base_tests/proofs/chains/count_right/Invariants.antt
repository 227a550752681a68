use Rattle.std.proofs.Common.{◌≡◌, length}
use Rattle.base_tests.proofs.chains.count_right.Given as goal

abbrev pub invariant-steps : goal.invariant-steps
invariant-steps l = record { codes : length l.chains.lists ≡ 6; room : l.chains.room ≡ 3 }
