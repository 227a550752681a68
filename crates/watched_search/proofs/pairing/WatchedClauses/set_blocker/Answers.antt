use Rattle.std.proofs.Common.{◌≡◌, ◌<◌, length, get_or, set, refl, ◌∙◌, subst, arith}
use Rattle.std.proofs.lemmas.List.{get_or_read, get_or_default}
use Rattle.watched_search.specs.declared.lists.Watch.{Watch}
use Rattle.watched_search.specs.inner.Lists.{ListView, no_list, row_at, IsBlocked}
use Rattle.watched_search.proofs.MoveLemmas.{at_slot}
use Rattle.watched_search.proofs.ListLemmas.{rows_below, links_long, link_is, IsBlocked-by, replaced_links, replaced_blocked, replaced_room}
use Rattle.watched_search.proofs.pairing.WatchedClauses.set_blocker.Goals as goal
use Rattle.watched_search.proofs.pairing.WatchedClauses.set_blocker.Goals.{After-replace}

-- the watch that is replaced, and the list that then has the new one
module _ (c : After-replace) where
  new : Watch
  new = record { link = c.get-watch.result.link; blocker = c.code_of.result }

  within : c.code_of-list.result < length c.self.inside.lists.items
  within =
      let at = rw (← c.self.view_is) at c.requires.at in
      rw c.code_of-list.ensures (rows_below c.self.inside.lists.items c.self.inside.vars c.args.at.lit c.self.invariant.0.codes at.below)

  inside : c.args.at.place < length (row_at c.self.inside.lists.items c.code_of-list.result).watches
  inside =
      let at = rw (← c.self.view_is) at c.requires.at in
      let lt = rw (← c.code_of-list.ensures) at at.within in
      let long = links_long c.self.inside.lists.items c.code_of-list.result in
      omega arith

  read : get_or (row_at c.self.inside.lists.items c.code_of-list.result).watches c.args.at.place c.get-watch.result ≡ c.get-watch.result
  read = subst (λ (r : ListView). get_or r.watches c.args.at.place c.get-watch.result ≡ c.get-watch.result)
      (get_or_read c.self.inside.lists.items c.code_of-list.result c.index.result.now within c.index.ensures no_list) c.get-watch.ensures

  row : c.replace.new.self ≡ record (row_at c.self.inside.lists.items c.code_of-list.result) { watches = set (row_at c.self.inside.lists.items c.code_of-list.result).watches c.args.at.place new }
  unfolding new
  row = subst (λ (r : ListView). c.replace.new.self ≡ record r { watches = set r.watches c.args.at.place new })
      (c.index_mut.ensures.value ∙ get_or_default c.self.inside.lists.items c.code_of-list.result _ no_list within) c.replace.ensures

  blocked : IsBlocked c.self.inside.store new
  unfolding new
  blocked =
      let at = rw (← c.self.view_is) at c.requires.at in
      let st = at_slot _ c.args.at.lit c.args.at.place c.args.at.link c.self.invariant.0 at in
      let lt = rw (← c.code_of-list.ensures) at at.within in
      let link = rw (← c.code_of-list.ensures) at at.link in
      IsBlocked-by c.self.inside.store c.args.at.link new c.args.l st.0.clause (link_is c.self.inside.lists.items c.code_of-list.result c.args.at.place c.args.at.link c.get-watch.result lt link read)
      c.code_of.ensures (rw (← c.self.view_is) at c.requires.member)

pub invariant_of-self : goal.invariant_of-self
unfolding new
invariant_of-self c =
    let d = (goal.at.invariant_of-self c).After-replace in
    let rows = c.self.inside.lists.items in
    let z = c.code_of-list.result in
    rw (replaced_links rows z c.args.at.place c.get-watch.result (new d) c.replace.new.self (within d) (inside d) (read d) refl (row d)) (
      c.self.invariant.0,
      replaced_blocked rows z c.args.at.place c.get-watch.result (new d) c.replace.new.self (within d) (inside d) (read d) refl (row d) c.self.inside.store (blocked d) c.self.invariant.1,
      replaced_room rows z c.args.at.place c.get-watch.result (new d) c.replace.new.self (within d) (inside d) (read d) refl (row d) c.self.inside.vars c.self.inside.store c.self.invariant.2,
      c.self.invariant.3,
    )

pub returns : goal.returns
unfolding new
returns c =
    let d = (goal.at.returns c).After-replace in
    rw (
      ← c.self.view_is,
      replaced_links c.self.inside.lists.items c.code_of-list.result c.args.at.place c.get-watch.result (new d) c.replace.new.self (within d) (inside d) (read d) refl (row d),
    ) refl
