use Rattle.std.proofs.Common.{◌≡◌, ◌+◌, ◌*◌, ◌<◌, ◌∙◌, ◌++◌, ◌∷◌, [], ℕ, None, Some, List, length, set, refl, sym, ap, subst, arith, length-set}
use Rattle.std.specs.Prelude.{Contains}
use Rattle.std.proofs.lemmas.List.{length_push, get_or_default, get_or_push, get_or-set_other}
use Rattle.std.proofs.lemmas.List.Elements.{All-contains}
use Rattle.sat_formula.specs.declared.lit.Lit.{Lit}
use Rattle.sat_formula.specs.Lit.{IsBelow}
use Rattle.watched_search.specs.declared.lists.Watch.{Watch}
use Rattle.watched_search.specs.Codes.{code}
use Rattle.watched_search.specs.Searching.{clause_at}
use Rattle.watched_search.specs.inner.Lists.{ListView, no_list, row_at, HasRoom}
use Rattle.watched_search.specs.inner.Spans.{watching_in}
use Rattle.watched_search.proofs.CodeLemmas.{code-same}
use Rattle.watched_search.proofs.SpanLemmas.{watching-push}
use Rattle.watched_search.proofs.AddLemmas.{IsPaired-add_short, IsPaired-add_long}
use Rattle.watched_search.proofs.RoomLemmas.{HasRoom-more, HasRoom-add}
use Rattle.watched_search.proofs.ListLemmas.{rows_below, room_for_new, blocked_more, puts_rows}
use Rattle.watched_search.proofs.pairing.WatchedClauses.add.Goals as goal
use Rattle.watched_search.proofs.pairing.WatchedClauses.add.Goals.{After-code_of-second, After-self-in-Some-1}

pub invariant_of-self : goal.invariant_of-self
invariant_of-self c =
    let more = c.make_room.ensures.roomier in
    rw more.same (c.self.invariant.0, more.blocked _ c.self.invariant.1, HasRoom-more _ _ _ _ c.self.invariant.2 more, c.self.invariant.3)

pub invariant_of-self-in_err-reserve : goal.invariant_of-self-in_err-reserve
invariant_of-self-in_err-reserve c =
    let more = c.make_room.ensures.roomier in
    rw (c.reserve.ensures.items, more.same) (c.self.invariant.0, more.blocked _ c.self.invariant.1, HasRoom-more _ _ _ _ c.self.invariant.2 more, c.self.invariant.3)

pub invariant_of-self-in_err-push : goal.invariant_of-self-in_err-push
invariant_of-self-in_err-push c =
    let more = c.make_room.ensures.roomier in
    rw (c.in_err-push.ensures.err, c.reserve.ensures.items, more.same) (c.self.invariant.0, more.blocked _ c.self.invariant.1, HasRoom-more _ _ _ _ c.self.invariant.2 more, c.self.invariant.3)

pub invariant_of-self-in-None : goal.invariant_of-self-in-None
invariant_of-self-in-None c =
    let more = c.make_room.ensures.roomier in
    let lits = c.args.clause.now in
    let slots : watching_in c.push_reserved-in-None.new.self.items ≡ watching_in c.self.inside.slots.items ++ None ∷ None ∷ [] =
    ap watching_in (c.push_reserved-in-None.ensures.items ∙ ap (λ (xs : List ℕ). xs ++ 4294967295 ∷ []) (c.push_reserved.ensures.items ∙ ap (λ (xs : List ℕ). xs ++ 4294967295 ∷ []) c.reserve.ensures.items))
    ∙ watching-push c.self.inside.slots.items 4294967295 4294967295 None None refl refl in
    rw (c.in_ok-push.ensures.ok, slots, more.same) (
      IsPaired-add_short _ lits c.self.invariant.0 (rw (← c.self.view_is) at c.requires) c.in-None.ensures,
      blocked_more c.self.inside.store lits _ (more.blocked _ c.self.invariant.1),
      HasRoom-add c.self.inside.vars c.self.inside.store lits _ _ c.self.invariant.2 more c.in_ok-make_room.ensures.room,
      c.self.invariant.3,
    )

-- the lists of the two literals
module _ (c : After-code_of-second) where
  roomy : HasRoom c.self.inside.vars (c.self.inside.store ++ c.args.clause.now ∷ []) c.make_room.new.lists.items
  roomy = HasRoom-add c.self.inside.vars c.self.inside.store c.args.clause.now _ _ c.self.invariant.2 c.make_room.ensures.roomier c.in_ok-make_room.ensures.room

  below : (l : Lit) → Contains c.args.clause.now l → l.var < c.self.inside.vars
  below l has = All-contains (IsBelow c.self.inside.vars) c.args.clause.now l (rw (← c.self.view_is) at c.requires) has

  row_below : (l : Lit) → Contains c.args.clause.now l → code l < length c.make_room.new.lists.items
  row_below l has = rows_below c.make_room.new.lists.items c.self.inside.vars l (ap length c.make_room.ensures.roomier.same ∙ c.self.invariant.0.codes) (below l has)

  first_below : c.code_of-first.result < length c.make_room.new.lists.items
  first_below = rw c.code_of-first.ensures (row_below c.in-Some.a c.in-Some.ensures.0)

  second_below : c.code_of-second.result < length c.make_room.new.lists.items
  second_below = rw c.code_of-second.ensures (row_below c.in-Some.b c.in-Some.ensures.1)

  codes_apart : c.code_of-second.result ≡ c.code_of-first.result → ⊥
  codes_apart e = c.in-Some.ensures.2 (sym (code-same c.in-Some.b c.in-Some.a (sym c.code_of-second.ensures ∙ e ∙ c.code_of-first.ensures)))

pub push-requires-in-Some : goal.push-requires-in-Some
push-requires-in-Some c =
    let d = (goal.at.push-requires-in-Some c).After-code_of-second in
    let row : c.index_mut.result.now ≡ row_at c.make_room.new.lists.items (code c.in-Some.a) =
    c.index_mut.ensures.value ∙ get_or_default c.make_room.new.lists.items c.code_of-first.result _ no_list (first_below d) ∙ ap (λ n. row_at c.make_room.new.lists.items n) c.code_of-first.ensures in
    rw row (room_for_new _ c.make_room.new.lists.items c.args.clause.now c.in-Some.a c.self.invariant.0 (roomy d) c.make_room.ensures.roomier.same (below d c.in-Some.a c.in-Some.ensures.0) c.in-Some.ensures.0)

pub index_mut-requires-in-Some : goal.index_mut-requires-in-Some
index_mut-requires-in-Some c =
    let lt = second_below (goal.at.index_mut-requires-in-Some c).After-code_of-second in
    let long = c.make_room.new.lists.ok.0 in
    omega arith

pub push-requires-in-Some-2 : goal.push-requires-in-Some-2
push-requires-in-Some-2 c =
    let d = (goal.at.push-requires-in-Some-2 c).After-code_of-second in
    let lt = second_below d in
    let long = length-set c.make_room.new.lists.items c.code_of-first.result c.push-in-Some.new.self in
    let row : c.index_mut-in-Some.result.now ≡ row_at c.make_room.new.lists.items (code c.in-Some.b) =
    c.index_mut-in-Some.ensures.value ∙ get_or_default (set c.make_room.new.lists.items c.code_of-first.result c.push-in-Some.new.self) c.code_of-second.result _ no_list (omega arith)
    ∙ get_or-set_other c.make_room.new.lists.items c.code_of-first.result c.code_of-second.result c.push-in-Some.new.self no_list (codes_apart d) ∙ ap (λ n. row_at c.make_room.new.lists.items n) c.code_of-second.ensures in
    rw row (room_for_new _ c.make_room.new.lists.items c.args.clause.now c.in-Some.b c.self.invariant.0 (roomy d) c.make_room.ensures.roomier.same (below d c.in-Some.b c.in-Some.ensures.1) c.in-Some.ensures.1)

module _ (c : After-self-in-Some-1) (d : After-code_of-second) where
  slots_pushed : watching_in c.push_reserved-in-Some-2.new.self.items ≡ watching_in c.self.inside.slots.items ++ Some c.in-Some.a ∷ Some c.in-Some.b ∷ []
  slots_pushed =
      ap watching_in (c.push_reserved-in-Some-2.ensures.items
      ∙ ap (λ (xs : List ℕ). xs ++ c.number_of-in-Some.result ∷ []) (c.push_reserved-in-Some.ensures.items ∙ ap (λ (xs : List ℕ). xs ++ c.number_of.result ∷ []) c.reserve.ensures.items))
      ∙ watching-push c.self.inside.slots.items c.number_of.result c.number_of-in-Some.result (Some c.in-Some.a) (Some c.in-Some.b) c.number_of.ensures c.number_of-in-Some.ensures

pub invariant_of-self-in-Some : goal.invariant_of-self-in-Some
invariant_of-self-in-Some c =
    let d = (goal.at.invariant_of-self-in-Some c).After-code_of-second in
    let e = (goal.at.invariant_of-self-in-Some c).After-self-in-Some-1 in
    let store = c.self.inside.store in
    let lits = c.args.clause.now in
    let n = c.count-c.result in
    let a = c.in-Some.a in
    let b = c.in-Some.b in
    let size = length_push store lits in
    let count = c.count-c.ensures in
    let here : clause_at (store ++ lits ∷ []) n ≡ lits = get_or_push store lits [] n (sym count) in
    let long = length-set c.make_room.new.lists.items c.code_of-first.result c.push-in-Some.new.self in
    let lt = second_below d in
    let one = set c.make_room.new.lists.items c.code_of-first.result c.push-in-Some.new.self in
    let row = c.index_mut.ensures.value ∙ get_or_default c.make_room.new.lists.items c.code_of-first.result _ no_list (first_below d) in
    let next = c.index_mut-in-Some.ensures.value ∙ get_or_default one c.code_of-second.result _ no_list (omega arith) in
    let v : Watch = record { link = 2 * n; blocker = c.code_of-second.result } in
    let w : Watch = record { link = 2 * n + 1; blocker = c.code_of-first.result } in
    let p = puts_rows c.self.inside.vars (store ++ lits ∷ []) c.make_room.new.lists.items n a b v w c.code_of-first.result c.code_of-second.result c.push-in-Some.new.self c.push-in-Some-2.new.self
    c.code_of-first.ensures c.code_of-second.ensures (first_below d) lt (omega arith) (rw here c.in-Some.ensures.0) (rw here c.in-Some.ensures.1) refl refl c.code_of-second.ensures c.code_of-first.ensures
    (subst (λ (r : ListView). c.push-in-Some.new.self ≡ record r { watches = r.watches ++ v ∷ [] }) row c.push-in-Some.ensures)
    (subst (λ (r : ListView). c.push-in-Some-2.new.self ≡ record r { watches = r.watches ++ w ∷ [] }) next c.push-in-Some-2.ensures)
    (blocked_more store lits c.make_room.new.lists.items (c.make_room.ensures.roomier.blocked _ c.self.invariant.1)) in
    rw (c.in_ok-push.ensures.ok, slots_pushed e d, p.links, c.make_room.ensures.roomier.same, count) (
      IsPaired-add_long _ lits a b c.self.invariant.0 (rw (← c.self.view_is) at c.requires) (below d a c.in-Some.ensures.0) (below d b c.in-Some.ensures.1) c.in-Some.ensures,
      p.blocked,
      p.room (roomy d),
      c.self.invariant.3,
    )

pub returns-in-Some-clause-added : goal.returns-in-Some-clause-added
returns-in-Some-clause-added c =
    let d = (goal.at.returns-in-Some-clause-added c).After-code_of-second in
    let e = (goal.at.returns-in-Some-clause-added c).After-self-in-Some-1 in
    rw (← c.self.view_is, c.in_ok-push.ensures.ok, slots_pushed e d) (record {
      first = Some c.in-Some.a;
      second = Some c.in-Some.b;
      same = refl;
    })
