use Rattle.tla_evaluator.proofs.RowLemmas.{row_normal}
use Rattle.std.proofs.Common.{Some}
use Rattle.tla_evaluator.proofs.operators.table.Goals as goal

pub returns-clause-normal : goal.returns-clause-normal
returns-clause-normal c = row_normal c.told.result (Some c.args.width) c.args.place c.args.op.now c.args.operands.items c.requires.normal (c.told.ensures _ c.row_of.ensures)
