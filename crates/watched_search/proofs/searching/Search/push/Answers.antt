use Rattle.std.proofs.Common.{◌∙◌, refl, sym, ap}
use Rattle.watched_search.specs.Trail.{TrailView}
use Rattle.watched_search.proofs.searching.Search.push.Goals as goal

pub invariant_of-self : goal.invariant_of-self
invariant_of-self c = (
  c.decide.ensures.kept _ _ refl c.self.invariant.0,
  c.self.invariant.1 ∙ sym (ap (λ (t : TrailView). t.room) c.decide.ensures.pushed),
)
