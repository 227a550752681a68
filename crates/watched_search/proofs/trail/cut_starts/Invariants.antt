use Rattle.std.proofs.Common.{◌≡◌, length}
use Rattle.std.specs.Vec.{vec_capacity}
use Rattle.watched_search.proofs.StartLemmas.{Cut}
use Rattle.watched_search.proofs.trail.cut_starts.Given as goal

abbrev pub invariant-loop-last : goal.invariant-loop-last
invariant-loop-last l = record {
  cut : Cut l.limit l.initial.starts.items l.starts.items l.first;
  capacity : vec_capacity l.starts ≡ vec_capacity l.initial.starts;
}

abbrev pub decreases-loop-last : goal.decreases-loop-last
decreases-loop-last l = length l.starts.items
