use Rattle.std.proofs.Common.{ℕ, List, ap}
use Rattle.decision_queue.proofs.Links.{walk_is, view_of, Linked-new}
use Rattle.decision_queue.proofs.queue.DecisionQueue.new.Goals as goal

pub invariant_of-result : goal.invariant_of-result
invariant_of-result c =
    let f = c.in_ok-next.ensures in
    let l = c.in_ok-prev.ensures in
    view_of _ _ _ _ (Linked-new c.args.n _ _ f.size l.size f.each f.last l.first l.each)

pub returns : goal.returns
returns c =
    let f = c.in_ok-next.ensures in
    let l = c.in_ok-prev.ensures in
    ap (λ (x : List ℕ). record { room = c.args.n; items = x }) (walk_is _ _ _ _ (Linked-new c.args.n _ _ f.size l.size f.each f.last l.first l.each))
