use Rattle.std.proofs.Common.{◌+◌}
use Rattle.snowcat_types.proofs.RowsNamed.{unknown_named}
use Rattle.snowcat_types.proofs.around.name_row.Goals as goal

pub returns-clause-named : goal.returns-clause-named
returns-clause-named c = c.leaf_row.ensures.named (unknown_named c.in_ok-of.of (0 + c.args.i) c.in_ok-of.ensures)
