use Rattle.branch_cells.proofs.Filled.{chosen_filled}
use Rattle.branch_cells.proofs.filling.fill_name.Goals as goal

pub returns-clause-filled : goal.returns-clause-filled
returns-clause-filled c =
    chosen_filled c.args.b.now _ c.args.sure c.args.item c.args.other c.in_ok-id.id
    (c.in-Some.cell, c.in-Some.given) c.in-Some.is
    c.in_ok-id.ensures.grows c.requires c.in_ok-id.ensures.chosen
