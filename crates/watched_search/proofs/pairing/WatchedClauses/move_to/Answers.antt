use Rattle.std.proofs.Common.{◌≡◌, ◌<◌, ◌++◌, ◌∷◌, [], length, get_or, set, Some, sym, refl, ◌∙◌, ap, subst, arith, length-set}
use Rattle.std.specs.List.{swap_remove}
use Rattle.std.proofs.lemmas.List.{get_or_default, get_or-set_other}
use Rattle.watch_chains.specs.Chains.{place_of}
use Rattle.watched_search.specs.Codes.{code}
use Rattle.watched_search.specs.inner.Lists.{ListView, no_list, row_at}
use Rattle.watched_search.proofs.CodeLemmas.{code-same}
use Rattle.watched_search.proofs.SpanLemmas.{watching-set}
use Rattle.watched_search.proofs.MoveLemmas.{moved_front, moved_fewer, moved_paired}
use Rattle.watched_search.proofs.ListLemmas.{rows_below, room_for_moved, moves_row, MovesRow}
use Rattle.watched_search.proofs.pairing.WatchedClauses.move_to.Goals as goal
use Rattle.watched_search.proofs.pairing.WatchedClauses.move_to.Goals.{After-push}

pub push-requires : goal.push-requires
push-requires c =
    let rows = c.self.inside.lists.items in
    let at = rw (← c.self.view_is) at c.requires.at in
    let new = rw (← c.self.view_is) at c.requires.new in
    let long = length-set rows c.code_of.result c.take_out-watch.new.self in
    let within : c.code_of-2.result < length rows = rw c.code_of-2.ensures (rows_below rows c.self.inside.vars c.args.v c.self.invariant.0.codes new) in
    let next : c.code_of-2.result < length (set rows c.code_of.result c.take_out-watch.new.self) = omega arith in
    let apart : c.code_of-2.result ≡ c.code_of.result → ⊥ = λ e. c.requires.other (code-same c.args.v c.args.at.lit (sym c.code_of-2.ensures ∙ e ∙ c.code_of.ensures)) in
    let row : c.index_mut-2.result.now ≡ row_at rows (code c.args.v) =
    c.index_mut-2.ensures.value ∙ get_or_default (set rows c.code_of.result c.take_out-watch.new.self) c.code_of-2.result _ no_list next
    ∙ get_or-set_other rows c.code_of.result c.code_of-2.result c.take_out-watch.new.self no_list apart ∙ ap (λ n. row_at rows n) c.code_of-2.ensures in
    rw row (room_for_moved _ rows c.args.at.lit c.args.v c.args.at.place c.args.at.link refl c.self.invariant.0 c.self.invariant.2 at new c.requires.other (rw (← c.self.view_is) at c.requires.member) (rw (← c.self.view_is) at c.requires.apart))

moves : (c : After-push) → MovesRow c.self.inside.vars c.self.inside.store c.self.inside.lists.items (set (set c.self.inside.lists.items c.code_of.result c.take_out-watch.new.self) c.code_of-2.result c.push.new.self) c.args.at.lit c.args.v c.args.at.place c.args.at.link c.take_out-watch.result
moves c =
    let rows = c.self.inside.lists.items in
    let at = rw (← c.self.view_is) at c.requires.at in
    let new = rw (← c.self.view_is) at c.requires.new in
    let first : c.code_of.result < length rows = rw (← c.code_of.ensures) at (rows_below rows c.self.inside.vars c.args.at.lit c.self.invariant.0.codes at.below) in
    let top : c.index_mut.result.now ≡ row_at rows c.code_of.result = c.index_mut.ensures.value ∙ get_or_default rows c.code_of.result _ no_list first in
    let one = set rows c.code_of.result c.take_out-watch.new.self in
    let long = length-set rows c.code_of.result c.take_out-watch.new.self in
    let within : c.code_of-2.result < length rows = rw c.code_of-2.ensures (rows_below rows c.self.inside.vars c.args.v c.self.invariant.0.codes new) in
    let next : c.code_of-2.result < length one = omega arith in
    let row : c.index_mut-2.result.now ≡ row_at one c.code_of-2.result = c.index_mut-2.ensures.value ∙ get_or_default one c.code_of-2.result _ no_list next in
    moves_row c.self.inside.vars c.self.inside.store rows c.args.at.lit c.args.v c.args.at.place c.args.at.link c.take_out-watch.result c.code_of.result c.code_of-2.result c.take_out-watch.new.self c.push.new.self
    c.code_of.ensures c.code_of-2.ensures first within at.within at.link
    (subst (λ (r : ListView). get_or r.watches c.args.at.place c.take_out-watch.result ≡ c.take_out-watch.result) top c.take_out-watch.ensures.value)
    (subst (λ (r : ListView). c.take_out-watch.new.self ≡ record r { watches = swap_remove r.watches c.args.at.place c.take_out-watch.result }) top c.take_out-watch.ensures.left)
    (subst (λ (r : ListView). c.push.new.self ≡ record r { watches = r.watches ++ c.take_out-watch.result ∷ [] }) row c.push.ensures) c.self.invariant.1

pub invariant_of-self : goal.invariant_of-self
invariant_of-self c =
    let m = moves (goal.at.invariant_of-self c).After-push in
    let at = rw (← c.self.view_is) at c.requires.at in
    rw (m.place, watching-set c.self.inside.slots.items (place_of c.args.at.link) c.number_of.result (Some c.args.v) c.number_of.ensures, m.links) (
      moved_paired _ c.args.at.lit c.args.v c.args.at.place c.args.at.link c.self.invariant.0 at c.requires.other (rw (← c.self.view_is) at c.requires.new) (rw (← c.self.view_is) at c.requires.member) (rw (← c.self.view_is) at c.requires.apart),
      m.blocked,
      m.room c.self.invariant.2,
      c.self.invariant.3,
    )

pub returns-clause-paired : goal.returns-clause-paired
returns-clause-paired c =
    let m = moves (goal.at.returns-clause-paired c).After-push in
    let at = rw (← c.self.view_is) at c.requires.at in
    rw (m.place, watching-set c.self.inside.slots.items (place_of c.args.at.link) c.number_of.result (Some c.args.v) c.number_of.ensures, m.links)
    (moved_paired _ c.args.at.lit c.args.v c.args.at.place c.args.at.link c.self.invariant.0 at c.requires.other (rw (← c.self.view_is) at c.requires.new) (rw (← c.self.view_is) at c.requires.member) (rw (← c.self.view_is) at c.requires.apart))

pub returns-clause-moved : goal.returns-clause-moved
returns-clause-moved c =
    let m = moves (goal.at.returns-clause-moved c).After-push in
    let at = rw (← c.self.view_is) at c.requires.at in
    rw (← c.self.view_is, m.place, watching-set c.self.inside.slots.items (place_of c.args.at.link) c.number_of.result (Some c.args.v) c.number_of.ensures, m.links) (record {
      same = refl;
      front = moved_front _ c.args.at.lit c.args.v c.args.at.place c.args.at.link c.self.invariant.0 at c.requires.other;
      fewer = moved_fewer _ c.args.at.lit c.args.v c.args.at.place c.args.at.link c.self.invariant.0 at c.requires.other;
    })
