use Rattle.std.proofs.Common.{◌≡◌, ◌+◌, ◌<◌, ◌∙◌, length, take, get_or, arith, subst}
use Rattle.std.proofs.lemmas.List.{take_more, take_all, get_or_default}
use Rattle.sat_formula.specs.declared.lit.Lit.{Lit}
use Rattle.watched_search.specs.Codes.{code}
use Rattle.watched_search.specs.inner.Lists.{ListView, no_list, row_at}
use Rattle.watched_search.proofs.TrailLemmas.{no_entry}
use Rattle.watched_search.proofs.RoomLemmas.{IsRoomier-step, MakesRoom-step}
use Rattle.watched_search.proofs.pairing.make_room.Goals as goal

pub loop-l-preserved : goal.loop-l-preserved
loop-l-preserved c =
    let old = c.args.lists.now.items in
    let rows = c.loop-l.lists.items in
    let z = c.code_of.result in
    let l : Lit = get_or c.args.clause.now c.loop-l.l-index no_entry.lit in
    let more = take_more c.args.clause.now c.loop-l.l-index no_entry.lit c.loop-l-test.true in
    let size = c.loop-l.invariant.roomier.size in
    let below : code l < length old = c.requires c.loop-l.l-index no_entry.lit c.loop-l-test.true in
    let at = c.code_of.ensures in
    let within : z < length rows = omega arith in
    let row : c.index_mut.result.now ≡ row_at rows z = c.index_mut.ensures.value ∙ get_or_default rows z _ no_list within in
    let is : c.make_room.new.self ≡ record (row_at rows z) { room = (row_at rows z).room + 1 } = subst (λ (r : ListView). c.make_room.new.self ≡ record r { room = r.room + 1 }) row c.in_ok-make_room.ensures.ok in
    rw more (record {
      roomier = IsRoomier-step old rows z c.make_room.new.self within is c.loop-l.invariant.roomier;
      makes = MakesRoom-step old rows (take c.loop-l.l-index c.args.clause.now) l z c.make_room.new.self within at is c.loop-l.invariant.roomier c.loop-l.invariant.makes;
    })

pub returns-clause-room : goal.returns-clause-room
returns-clause-room c = rw (take_all c.loop-l.l-index c.args.clause.now (let past = c.loop-l-test.false in omega arith)) at c.loop-l.invariant.makes
