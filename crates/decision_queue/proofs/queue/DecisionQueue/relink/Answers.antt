use Rattle.std.proofs.Common.{◌∙◌, ℕ, ◌<◌, List, ◌∷◌, ap, arith}
use Rattle.std.proofs.lemmas.List.{get_or_read}
use Rattle.decision_queue.specs.Queue.{Queue}
use Rattle.decision_queue.proofs.Links.{walk_is, view_of, relinked}
use Rattle.decision_queue.proofs.queue.DecisionQueue.relink.Goals as goal

pub invariant_of-self : goal.invariant_of-self
invariant_of-self c =
    let L = c.self.invariant in
    let size = L.next_size in
    let below : c.args.v < c.self.inside.room = rw (← c.self.view_is) at c.requires.below in
    let absent = rw (← c.self.view_is) at c.requires.absent in
    let q = get_or_read c.self.inside.next.items c.self.inside.room c.index-after.result.now (omega arith) c.index-after.ensures 0 in
    view_of _ _ _ _ (relinked _ _ _ _ _ _ L below absent q)

pub returns : goal.returns
returns c =
    let L = c.self.invariant in
    let size = L.next_size in
    let below : c.args.v < c.self.inside.room = rw (← c.self.view_is) at c.requires.below in
    let absent = rw (← c.self.view_is) at c.requires.absent in
    let q = get_or_read c.self.inside.next.items c.self.inside.room c.index-after.result.now (omega arith) c.index-after.ensures 0 in
    ap (λ (x : List ℕ). record { room = c.self.inside.room; items = x }) (walk_is _ _ _ _ (relinked _ _ _ _ _ _ L below absent q))
    ∙ ap (λ (t : Queue). record { room = t.room; items = c.args.v ∷ t.items }) c.self.view_is
