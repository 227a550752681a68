use Rattle.std.proofs.Common.{◌∙◌, ◌∷◌, [], sym, length-set, arith}
use Rattle.std.proofs.lemmas.List.{length_push}
use Rattle.watched_search.proofs.StartLemmas.{AreStarts-more}
use Rattle.watched_search.proofs.TrailLemmas.{lits-append, Marked-push, Marked-room, Placed-push}
use Rattle.watched_search.proofs.TruthLemmas.{Truths-push}
use Rattle.watched_search.proofs.trail.Trail.push.Goals as goal

pub push_reserved-requires : goal.push_reserved-requires
push_reserved-requires c =
    let room = Marked-room _ _ c.args.entry.lit c.self.invariant.0.marked (rw (← c.self.view_is) at c.requires.below) (rw (← c.self.view_is) at c.requires.free) in
    let capacity = c.self.invariant.2 in
    omega arith

pub invariant_of-self : goal.invariant_of-self
invariant_of-self c =
    let below = rw (← c.self.view_is) at c.requires.below in
    let free = rw (← c.self.view_is) at c.requires.free in
    let size = length_push c.self.inside.entries.items c.args.entry in
    rw (c.push_reserved.ensures.items, c.as_slice-place.ensures.value, c.push_reserved.ensures.capacity, length-set) (
      record {
        marked = Marked-push _ _ c.args.entry c.self.invariant.0.marked below free;
        placed = Placed-push _ _ _ c.args.entry c.self.invariant.0 below free;
        sized = length-set _ _ _ ∙ c.self.invariant.0.sized ∙ sym (length-set _ _ _);
      },
      AreStarts-more _ _ _ (omega arith) c.self.invariant.1,
      c.self.invariant.2,
      c.self.invariant.3,
      rw (c.code_of.ensures, lits-append c.self.inside.entries.items (c.args.entry ∷ [])) (Truths-push _ _ _ c.args.entry.lit c.self.invariant.4 below),
    )
