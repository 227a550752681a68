use Rattle.std.proofs.Common.{◌∙◌, sym}
use Rattle.watched_search.proofs.StartLemmas.{AreStarts-back}
use Rattle.watched_search.proofs.TrailLemmas.{Placed-take}
use Rattle.watched_search.proofs.trail.Trail.back.Goals as goal

pub invariant_of-self : goal.invariant_of-self
invariant_of-self c =
    let k = c.take_back.ensures.kept in
    rw (c.cut_starts.ensures.kept, c.cut_starts.ensures.capacity, c.take_back.ensures.capacity, c.take_back.ensures.room) (
      record {
        marked = c.take_back.ensures.marked;
        placed = rw k (Placed-take _ _ c.args.keep c.self.invariant.0.placed);
        sized = c.self.invariant.0.sized ∙ sym c.take_back.ensures.room;
      },
      rw k (AreStarts-back _ c.args.keep _ c.self.invariant.1),
      c.self.invariant.2,
      c.self.invariant.3,
      rw c.take_back.ensures.room at c.take_back.ensures.truths,
    )
