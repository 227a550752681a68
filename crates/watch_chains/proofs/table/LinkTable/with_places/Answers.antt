use Rattle.std.proofs.Common.{◌≡◌, ◌∙◌, ap, replicate, rules}
use Rattle.watch_chains.specs.Chains.{links_in}
use Rattle.watch_chains.proofs.Tables.{no_links}
use Rattle.watch_chains.proofs.table.LinkTable.with_places.Goals as goal

pub returns : goal.returns
returns c =
    let items : c.in_ok-numbers.numbers.items ≡ replicate c.args.n 4294967295 = search rules in
    ap links_in items ∙ no_links c.args.n
