use Rattle.watched_search.proofs.StartLemmas.{AreStarts-cut}
use Rattle.watched_search.proofs.trail.Trail.cut.Goals as goal

pub invariant_of-self : goal.invariant_of-self
invariant_of-self c =
    rw (c.cut_starts.ensures.kept, c.cut_starts.ensures.capacity) (
      c.self.invariant.0,
      AreStarts-cut _ c.args.limit _ c.self.invariant.1,
      c.self.invariant.2,
      c.self.invariant.3,
      c.self.invariant.4,
    )
