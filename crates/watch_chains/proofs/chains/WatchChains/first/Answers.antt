use Rattle.std.proofs.Common.{◌≡◌, ◌∙◌, ◌<◌, List, length, Option, subst}
use Rattle.std.specs.Prelude.{slice_get}
use Rattle.watch_chains.specs.declared.link.Link.{Link}
use Rattle.watch_chains.specs.Watches.{Watches, list_at, IsWatchTable}
use Rattle.watch_chains.specs.Chains.{lists_of}
use Rattle.watch_chains.proofs.Tables.{first_told, table_of}
use Rattle.watch_chains.proofs.chains.WatchChains.first.Goals as goal

pub returns-clause-front : goal.returns-clause-front
returns-clause-front c =
    let F : List (Option Link) = c.self.inside.firsts in
    let N : List (Option Link) = c.self.inside.nexts in
    let code : c.args.code < length (lists_of F N) = rw (← c.self.view_is) at c.requires in
    subst (λ (t : Watches). c.get.result ≡ slice_get (list_at t.lists c.args.code) 0) c.self.view_is
    (c.get.ensures.same ∙ first_told F N (lists_of F N) c.args.code c.self.invariant code)

pub returns-clause-table : goal.returns-clause-table
returns-clause-table c = subst (λ (t : Watches). IsWatchTable t.room t.lists) c.self.view_is (table_of _ _ _ c.self.invariant)
