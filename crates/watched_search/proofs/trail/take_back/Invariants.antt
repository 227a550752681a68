use Rattle.std.proofs.Common.{◌≡◌, length, take}
use Rattle.std.specs.Vec.{vec_capacity}
use Rattle.watched_search.specs.Trail.{lits_of}
use Rattle.watched_search.specs.inner.Tables.{Marked, Truths}
use Rattle.watched_search.proofs.trail.take_back.Given as goal

abbrev pub invariant-loop-entries : goal.invariant-loop-entries
invariant-loop-entries l = record {
  marked : Marked l.values.items l.entries.items;
  truths : Truths (length l.values.items) l.truths.items (lits_of l.entries.items);
  room : length l.values.items ≡ length l.initial.values.items;
  front : take l.keep l.entries.items ≡ take l.keep l.initial.entries.items;
  capacity : vec_capacity l.entries ≡ vec_capacity l.initial.entries;
}

abbrev pub decreases-loop-entries : goal.decreases-loop-entries
decreases-loop-entries l = length l.entries.items
