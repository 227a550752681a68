use Rattle.std.proofs.Common.{◌-◌, length}
use Rattle.watch_chains.specs.Watches.{list_at}
use Rattle.watched_search.specs.Codes.{code}
use Rattle.watched_search.proofs.WalkLemmas.{Walks}
use Rattle.watched_search.proofs.propagation.visit_list.Given as goal

abbrev pub invariant-loop-watches : goal.invariant-loop-watches
invariant-loop-watches l = Walks l.initial.watched l.watched l.initial.trail l.trail l.l l.from

abbrev pub decreases-loop-watches : goal.decreases-loop-watches
decreases-loop-watches l = length (list_at l.watched.chains (code l.l)) - l.from
