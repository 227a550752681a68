use Rattle.std.proofs.Common.{◌∙◌, sym, Some, None, ◌<◌, length, subst, arith}
use Rattle.std.proofs.lemmas.List.{get_or_read}
use Rattle.watched_search.proofs.TrailLemmas.{place_found, place_none}
use Rattle.watched_search.specs.Trail.{TrailView, IsPlaceOf}
use Rattle.watched_search.proofs.trail.Trail.place.Goals as goal

pub returns-in-None : goal.returns-in-None
returns-in-None c =
    let below : c.args.v < length c.self.inside.values.items = rw (← c.self.view_is) at c.requires in
    subst (λ (t : TrailView). IsPlaceOf t.entries c.args.v None) c.self.view_is
    (place_none c.self.inside.values.items c.self.inside.entries.items c.args.v c.self.invariant.0.marked.agree below
    (sym (get_or_read _ _ _ below c.index.ensures _) ∙ c.in-None.is))

pub returns-in-Some : goal.returns-in-Some
returns-in-Some c =
    let below : c.args.v < length c.self.inside.values.items = rw (← c.self.view_is) at c.requires in
    let place = get_or_read c.self.inside.places.items c.args.v _ (let sized = c.self.invariant.0.sized in omega arith) c.index-in-Some.ensures 0 in
    subst (λ (t : TrailView). IsPlaceOf t.entries c.args.v (Some c.index-in-Some.result.now)) c.self.view_is
    (rw place (place_found c.self.inside.values.items c.self.inside.places.items c.self.inside.entries.items c.args.v c.in-Some.field-0 c.self.invariant.0 below
    (sym (get_or_read _ _ _ below c.index.ensures _) ∙ c.in-Some.is)))
