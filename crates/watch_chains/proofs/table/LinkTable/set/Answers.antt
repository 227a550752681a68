use Rattle.watch_chains.proofs.Tables.{links-set}
use Rattle.watch_chains.proofs.table.LinkTable.set.Goals as goal

pub returns : goal.returns
returns c = rw (← c.self.view_is) (links-set _ _ _ _ c.number_of.ensures)
