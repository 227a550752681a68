use Rattle.std.proofs.Common.{◌≡◌, replicate}
use Rattle.watched_search.specs.inner.Lists.{no_list}
use Rattle.watched_search.proofs.pairing.empty_lists.Given as goal

abbrev pub invariant-loop : goal.invariant-loop
invariant-loop l = l.lists.items ≡ replicate l.counter no_list
