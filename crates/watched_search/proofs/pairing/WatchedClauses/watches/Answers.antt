use Rattle.std.proofs.Common.{◌≡◌, ◌∙◌, ap}
use Rattle.std.proofs.lemmas.List.{get_or_read}
use Rattle.watched_search.specs.Codes.{code}
use Rattle.watched_search.specs.inner.Lists.{no_list, row_at}
use Rattle.watched_search.proofs.ListLemmas.{rows_below}
use Rattle.watched_search.proofs.pairing.WatchedClauses.watches.Goals as goal

pub returns-clause-blocked : goal.returns-clause-blocked
returns-clause-blocked c =
    let rows = c.self.inside.lists.items in
    let below = rw (← c.self.view_is) at c.requires in
    let within = rows_below rows c.self.inside.vars c.args.l c.self.invariant.0.codes below in
    let row : c.index.result.now ≡ row_at rows (code c.args.l) =
    get_or_read rows c.code_of.result c.index.result.now (rw c.code_of.ensures within) c.index.ensures no_list ∙ ap (λ n. row_at rows n) c.code_of.ensures in
    rw (← c.self.view_is, c.watches.ensures, row) (c.self.invariant.1 (code c.args.l) no_list within)
