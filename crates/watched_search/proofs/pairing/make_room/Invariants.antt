use Rattle.std.proofs.Common.{take}
use Rattle.watched_search.specs.inner.Lists.{IsRoomier, MakesRoom}
use Rattle.watched_search.proofs.pairing.make_room.Given as goal

abbrev pub invariant-loop-l : goal.invariant-loop-l
invariant-loop-l l = record {
  roomier : IsRoomier l.initial.lists.items l.lists.items;
  makes : MakesRoom l.initial.lists.items l.lists.items (take l.l-index l.clause);
}
