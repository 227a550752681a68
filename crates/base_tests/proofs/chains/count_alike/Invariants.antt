use Rattle.std.proofs.Common.{◌≡◌, length}
use Rattle.base_tests.proofs.chains.count_alike.Given as goal

abbrev pub invariant-calls : goal.invariant-calls
invariant-calls l = record { codes : length l.chains.lists ≡ 3; room : l.chains.room ≡ 6 }
