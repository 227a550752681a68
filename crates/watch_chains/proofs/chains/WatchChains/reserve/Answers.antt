use Rattle.std.proofs.Common.{◌≡◌, ◌∙◌, ◌/◌, List, length, max, Option, ap, arith}
use Rattle.watch_chains.specs.declared.link.Link.{Link}
use Rattle.watch_chains.specs.Watches.{Watches}
use Rattle.watch_chains.specs.Chains.{Chained, lists_of}
use Rattle.watch_chains.proofs.Tables.{lists-are, view_of, same_watches, Chained-more}
use Rattle.watch_chains.proofs.chains.WatchChains.reserve.Goals as goal

pub invariant_of-self : goal.invariant_of-self
invariant_of-self c =
    let F : List (Option Link) = c.self.inside.firsts in
    let N : List (Option Link) = c.self.inside.nexts in
    let size = c.in_ok-grow.ensures.longer.size in
    let was = c.len.ensures in
    let made : Chained F c.grow.new.self (lists_of F N) = Chained-more F N c.grow.new.self (lists_of F N) (omega arith)
    c.in_ok-grow.ensures.longer.same c.self.invariant in
    view_of _ _ _ made

pub returns-in_ok-grow-clause-grown : goal.returns-in_ok-grow-clause-grown
returns-in_ok-grow-clause-grown c =
    let F : List (Option Link) = c.self.inside.firsts in
    let N : List (Option Link) = c.self.inside.nexts in
    let size = c.in_ok-grow.ensures.longer.size in
    let was = c.len.ensures in
    let made : Chained F c.grow.new.self (lists_of F N) = Chained-more F N c.grow.new.self (lists_of F N) (omega arith)
    c.in_ok-grow.ensures.longer.same c.self.invariant in
    let slots = c.in-Some.ensures in
    let room : length c.grow.new.self / 2 ≡ max (length N / 2) c.args.clauses = omega arith in
    same_watches _ _ _ _ room (lists-are _ _ _ made)
    ∙ ap (λ (t : Watches). let w : Watches = record { room = max t.room c.args.clauses; lists = t.lists } in w) c.self.view_is
