use Rattle.std.proofs.Common.{length, ap, arith}
use Rattle.std.proofs.lemmas.List.{length-map}
use Rattle.watched_search.specs.declared.lists.Watch.{Watch}
use Rattle.watched_search.specs.inner.Lists.{link_of}
use Rattle.watched_search.specs.inner.Moving.{IsAt}
use Rattle.watched_search.proofs.WalkLemmas.{Walks, Walks-skip, Walks-stay, Walks-move, Walks-end, Advances-trans, stays_true, walk_at}
use Rattle.watched_search.proofs.propagation.visit_list.Goals as goal
use Rattle.watched_search.proofs.propagation.visit_list.Goals.{After-first_open-place, After-link_of-link}

skipped : (c : After-first_open-place) → Walks c.args.watched.now c.loop-watches.watched c.args.trail.now c.loop-watches.trail c.args.l c.first_open-place.result
skipped c =
    Walks-skip _ _ _ _ c.args.l c.loop-watches.from c.first_open-place.result _ _ c.loop-watches.invariant c.requires.room
    c.watches-watches.ensures.links c.watches-watches.ensures.blocked c.truths.ensures c.first_open-place.ensures

stands : (c : After-link_of-link) → IsAt c.loop-watches.watched c.args.l c.first_open-place.result c.link_of-link.result
stands c =
    walk_at _ _ _ _ c.args.l c.loop-watches.from c.first_open-place.result c.link_of-link.result _ _ c.loop-watches.invariant c.requires.below
    c.watches-watches.ensures.links c.if-place-watches.false c.link_of-link.ensures

pub returns-then-place-watches-clause-walked : goal.returns-then-place-watches-clause-walked
returns-then-place-watches-clause-walked c =
    let walk = skipped (goal.at.returns-then-place-watches-clause-walked c).After-first_open-place in
    let links = ap length c.watches-watches.ensures.links in
    let same = length-map c.watches-watches.result.now (λ (x : Watch). link_of x) in
    let past = c.if-place-watches.true in
    Walks-end _ _ _ _ c.args.l c.first_open-place.result walk (omega arith)

pub visit_clause-requires-clause-is_false : goal.visit_clause-requires-clause-is_false
visit_clause-requires-clause-is_false c = stays_true _ _ _ _ c.loop-watches.invariant.advances.driven c.requires.is_false

pub loop-watches-preserved-in-Stays : goal.loop-watches-preserved-in-Stays
loop-watches-preserved-in-Stays c =
    let d = goal.at.loop-watches-preserved-in-Stays c in
    Walks-stay _ _ _ _ _ _ c.args.l c.first_open-place.result c.link_of-link.result (skipped d.After-first_open-place) (stands d.After-link_of-link)
    c.in-Stays.ensures.advances c.in-Stays.ensures.visited.0 c.in-Stays.ensures.visited.1

pub loop-watches-preserved : goal.loop-watches-preserved
loop-watches-preserved c =
    let d = goal.at.loop-watches-preserved c in
    Walks-move _ _ _ _ _ _ c.args.l c.first_open-place.result c.link_of-link.result (skipped d.After-first_open-place) (stands d.After-link_of-link)
    c.in-Moves.ensures.advances c.in-Moves.ensures.visited

pub returns-in-Fails-clause-advances : goal.returns-in-Fails-clause-advances
returns-in-Fails-clause-advances c = Advances-trans _ _ _ _ _ _ c.loop-watches.invariant.advances c.in-Fails.ensures.advances
