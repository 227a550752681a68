use Rattle.std.proofs.Common.{◌≡◌, ◌∙◌, ◌<◌, List, ◌∷◌, ◌++◌, length, Option, subst}
use Rattle.std.specs.Prelude.{slice_get}
use Rattle.watch_chains.specs.declared.link.Link.{Link}
use Rattle.watch_chains.specs.Watches.{Watches, list_at}
use Rattle.watch_chains.specs.Chains.{follow, lists_of}
use Rattle.watch_chains.proofs.Tables.{next_told, place_in_list}
use Rattle.watch_chains.proofs.chains.WatchChains.next_of.Goals as goal

pub next_link-requires : goal.next_link-requires
next_link-requires c =
    let F : List (Option Link) = c.self.inside.firsts in
    let N : List (Option Link) = c.self.inside.nexts in
    let code : c.args.code < length (lists_of F N) = rw (← c.self.view_is) at c.requires.code in
    place_in_list F N (lists_of F N) c.args.code c.args.l c.self.invariant code (rw (← c.self.view_is) at c.requires.linked)

pub returns : goal.returns
returns c =
    let F : List (Option Link) = c.self.inside.firsts in
    let N : List (Option Link) = c.self.inside.nexts in
    let code : c.args.code < length (lists_of F N) = rw (← c.self.view_is) at c.requires.code in
    let answer : c.next_link.result ≡ follow N c.args.l = c.next_link.ensures.same in
    subst (λ (t : Watches). (front rest : List Link) → list_at t.lists c.args.code ≡ front ++ c.args.l ∷ rest → c.next_link.result ≡ slice_get rest 0) c.self.view_is
    (λ front rest is. answer ∙ next_told F N (lists_of F N) c.args.code front c.args.l rest c.self.invariant code is)
