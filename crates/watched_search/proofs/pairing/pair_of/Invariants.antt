use Rattle.std.proofs.Common.{◌≡◌, All, take}
use Rattle.watched_search.proofs.pairing.pair_of.Given as goal

abbrev pub invariant-loop-l : goal.invariant-loop-l
invariant-loop-l l = All (λ m. m ≡ l.first) (take l.l-index l.clause)
