use Rattle.std.proofs.Common.{◌≡◌, ◌-◌, List, ◌++◌, length}
use Rattle.std.specs.Prelude.{slice_get}
use Rattle.watch_chains.specs.declared.link.Link.{Link}
use Rattle.watch_chains.specs.Watches.{list_at}
use Rattle.base_tests.proofs.chains.contents.Given as goal

abbrev pub invariant-links : goal.invariant-links
invariant-links l = (rest : List Link) × (list_at l.chains.lists l.code ≡ l.links.items ++ rest) × (l.at ≡ slice_get rest 0)

abbrev pub decreases-links : goal.decreases-links
decreases-links l = length (list_at l.chains.lists l.code) - length l.links.items
