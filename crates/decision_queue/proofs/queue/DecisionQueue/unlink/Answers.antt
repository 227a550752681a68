use Rattle.std.proofs.Common.{◌∙◌, ℕ, List, ap, arith}
use Rattle.std.specs.Prelude.{Contains}
use Rattle.std.proofs.lemmas.List.{get_or_read}
use Rattle.decision_queue.specs.Queue.{Queue, without}
use Rattle.decision_queue.specs.Ring.{walk}
use Rattle.decision_queue.proofs.Links.{walk_is, view_of, unlinked, v_bound, next_bound}
use Rattle.decision_queue.proofs.queue.DecisionQueue.unlink.Goals as goal

pub index_mut-requires-2 : goal.index_mut-requires-2
index_mut-requires-2 c =
    let has : Contains (walk c.self.inside.next.items c.self.inside.room c.self.inside.room c.self.inside.room) c.args.v = rw (← c.self.view_is) at c.requires in
    let L = c.self.invariant in
    let size = L.next_size in
    let size' = L.prev_size in
    let below = v_bound _ _ _ _ _ L has in
    let b = next_bound _ _ _ _ _ L has in
    let q = get_or_read c.self.inside.next.items c.args.v c.index-after.result.now (omega arith) c.index-after.ensures 0 in
    let len = c.self.inside.prev.ok.0 in
    omega arith

pub invariant_of-self : goal.invariant_of-self
invariant_of-self c =
    let has : Contains (walk c.self.inside.next.items c.self.inside.room c.self.inside.room c.self.inside.room) c.args.v = rw (← c.self.view_is) at c.requires in
    let L = c.self.invariant in
    let size = L.next_size in
    let size' = L.prev_size in
    let below = v_bound _ _ _ _ _ L has in
    let made = unlinked _ _ _ _ _ _ _ L has
    (get_or_read c.self.inside.prev.items c.args.v c.index-before.result.now (omega arith) c.index-before.ensures 0)
    (get_or_read c.self.inside.next.items c.args.v c.index-after.result.now (omega arith) c.index-after.ensures 0) in
    view_of _ _ _ _ made

pub returns : goal.returns
returns c =
    let has : Contains (walk c.self.inside.next.items c.self.inside.room c.self.inside.room c.self.inside.room) c.args.v = rw (← c.self.view_is) at c.requires in
    let L = c.self.invariant in
    let size = L.next_size in
    let size' = L.prev_size in
    let below = v_bound _ _ _ _ _ L has in
    let made = unlinked _ _ _ _ _ _ _ L has
    (get_or_read c.self.inside.prev.items c.args.v c.index-before.result.now (omega arith) c.index-before.ensures 0)
    (get_or_read c.self.inside.next.items c.args.v c.index-after.result.now (omega arith) c.index-after.ensures 0) in
    ap (λ (x : List ℕ). record { room = c.self.inside.room; items = x }) (walk_is _ _ _ _ made)
    ∙ ap (λ (t : Queue). record { room = t.room; items = without c.args.v t.items }) c.self.view_is
