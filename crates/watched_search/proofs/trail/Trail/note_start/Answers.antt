use Rattle.std.proofs.Common.{length, arith}
use Rattle.watched_search.proofs.StartLemmas.{AreStarts-push, room_for_start}
use Rattle.watched_search.proofs.trail.Trail.note_start.Goals as goal

pub push_reserved-requires : goal.push_reserved-requires
push_reserved-requires c =
    let room = room_for_start (length c.self.inside.entries.items) c.self.inside.starts.items (rw (← c.self.view_is) at c.requires.some) (rw (← c.self.view_is) at c.requires.later) c.self.invariant.1 in
    let counted = c.self.invariant.0.marked.counted in
    let capacity = c.self.invariant.3 in
    omega arith

pub invariant_of-self : goal.invariant_of-self
invariant_of-self c =
    rw (c.push_reserved.ensures.items, c.as_slice.ensures.value, c.push_reserved.ensures.capacity) (
      c.self.invariant.0,
      AreStarts-push _ _ (rw (← c.self.view_is) at c.requires.some) (rw (← c.self.view_is) at c.requires.later) c.self.invariant.1,
      c.self.invariant.2,
      c.self.invariant.3,
      c.self.invariant.4,
    )
