use Rattle.std.proofs.Common.{◌≡◌, ℕ, ◌<◌, ◌∙◌, length, refl, sym, ap, arith}
use Rattle.std.proofs.lemmas.List.{get_or_read, length-map}
use Rattle.std.proofs.lemmas.List.Elements.{All-contains}
use Rattle.sat_formula.specs.Lit.{IsBelow}
use Rattle.watched_search.specs.inner.Keeping.{watch_at, other_of}
use Rattle.watched_search.specs.inner.Spans.{watching, watching_in}
use Rattle.watched_search.proofs.PairLemmas.{pair_of, some_same}
use Rattle.watched_search.proofs.SpanLemmas.{watching-at}
use Rattle.watched_search.proofs.pairing.WatchedClauses.other_watch.Goals as goal
use Rattle.watched_search.proofs.pairing.WatchedClauses.other_watch.Goals.{After-watch_of}

found : (c : After-watch_of) → c.watch_of.result ≡ watch_at (watching_in c.self.inside.slots.items) (other_of c.args.k)
found c =
    let below = rw (← c.self.view_is) at c.requires.below in
    let linked = rw (← c.self.view_is) at c.requires.linked in
    let st = (c.self.invariant.0.stands c.args.k c.args.l below linked).0 in
    let clause = st.clause in
    let slot = st.slot in
    let sized = c.self.invariant.0.slots in
    let place = c.place.ensures in
    let same = length-map c.self.inside.slots.items (λ n. watching n) in
    let lt : c.place.result < length c.self.inside.slots.items = omega arith in
    let read = get_or_read c.self.inside.slots.items c.place.result c.index.result.now lt c.index.ensures 0 in
    rw c.place.ensures at (c.watch_of.ensures ∙ ap (λ (n : ℕ). watching n) read ∙ sym (watching-at c.self.inside.slots.items c.place.result 0 lt))

pub unwrap-requires : goal.unwrap-requires
unwrap-requires c =
    let below = rw (← c.self.view_is) at c.requires.below in
    let linked = rw (← c.self.view_is) at c.requires.linked in
    let st = c.self.invariant.0.stands c.args.k c.args.l below linked in
    let pair = pair_of _ c.args.k c.args.l c.self.invariant.0 st.0 st.1 in
    rw (found (goal.at.unwrap-requires c).After-watch_of ∙ pair.1) refl

pub returns-clause-same : goal.returns-clause-same
returns-clause-same c = rw (← c.self.view_is) (sym (found (goal.at.returns-clause-same c).After-watch_of) ∙ c.unwrap.ensures)

pub returns-clause-below : goal.returns-clause-below
returns-clause-below c =
    let below = rw (← c.self.view_is) at c.requires.below in
    let linked = rw (← c.self.view_is) at c.requires.linked in
    let st = c.self.invariant.0.stands c.args.k c.args.l below linked in
    let pair = pair_of _ c.args.k c.args.l c.self.invariant.0 st.0 st.1 in
    let same = some_same pair.0 c.unwrap.result (sym pair.1 ∙ sym (found (goal.at.returns-clause-below c).After-watch_of) ∙ c.unwrap.ensures) in
    rw (← c.self.view_is, ← same) (All-contains (IsBelow c.self.inside.vars) _ pair.0 (c.self.invariant.0.names c.args.k.clause _ st.0.clause) pair.3)
