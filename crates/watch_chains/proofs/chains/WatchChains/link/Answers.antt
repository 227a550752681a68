use Rattle.std.proofs.Common.{◌∙◌, ℕ, ◌/◌, ◌<◌, List, ◌∷◌, length, set, Option, Some, ap, arith, length-set}
use Rattle.watch_chains.specs.declared.link.Link.{Link}
use Rattle.watch_chains.specs.Watches.{Watches, list_at, IsSlot}
use Rattle.watch_chains.specs.Chains.{Chained, lists_of}
use Rattle.watch_chains.proofs.Tables.{place_below, lists-are, view_of, same_watches, Chained-link}
use Rattle.watch_chains.proofs.chains.WatchChains.link.Goals as goal

pub place-requires : goal.place-requires
place-requires c =
    let F : List (Option Link) = c.self.inside.firsts in
    let N : List (Option Link) = c.self.inside.nexts in
    let slot : IsSlot (length N / 2) c.args.l = rw (← c.self.view_is) at c.requires.slot in
    let below = place_below (length N) c.args.l slot in
    let len = c.len.ensures in
    omega arith

pub invariant_of-self : goal.invariant_of-self
invariant_of-self c =
    let F : List (Option Link) = c.self.inside.firsts in
    let N : List (Option Link) = c.self.inside.nexts in
    let L : List (List Link) = lists_of F N in
    let code : c.args.code < length L = rw (← c.self.view_is) at c.requires.code in
    let read = c.get-first.ensures.same in
    let made : Chained (set F c.args.code (Some c.args.l)) (set N c.place.result c.get-first.result) (set L c.args.code (c.args.l ∷ list_at L c.args.code)) =
    rw (c.place.ensures, read) (Chained-link F N L c.args.code c.args.l c.self.invariant code (rw (← c.self.view_is) at c.requires.slot) (rw (← c.self.view_is) at c.requires.absent)) in
    rw (c.set-2.ensures, c.set.ensures) (view_of _ _ _ made)

pub returns : goal.returns
returns c =
    let F : List (Option Link) = c.self.inside.firsts in
    let N : List (Option Link) = c.self.inside.nexts in
    let L : List (List Link) = lists_of F N in
    let code : c.args.code < length L = rw (← c.self.view_is) at c.requires.code in
    let read = c.get-first.ensures.same in
    let made : Chained (set F c.args.code (Some c.args.l)) (set N c.place.result c.get-first.result) (set L c.args.code (c.args.l ∷ list_at L c.args.code)) =
    rw (c.place.ensures, read) (Chained-link F N L c.args.code c.args.l c.self.invariant code (rw (← c.self.view_is) at c.requires.slot) (rw (← c.self.view_is) at c.requires.absent)) in
    rw (c.set-2.ensures, c.set.ensures) (same_watches _ _ _ _ (ap (λ (n : ℕ). n / 2) (length-set N c.place.result c.get-first.result)) (lists-are _ _ _ made)
    ∙ ap (λ (t : Watches). let w : Watches = record { room = t.room; lists = set t.lists c.args.code (c.args.l ∷ list_at t.lists c.args.code) } in w) c.self.view_is)
