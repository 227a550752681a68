use Rattle.std.proofs.Common.{length}
use Rattle.tla_meaning.specs.declared.expr.Expr.{out-Expr}
use Rattle.snowcat_types.specs.inner.Built.{context_of}
use Rattle.snowcat_types.proofs.RowsNamed.{named_in_table, row_in_table}
use Rattle.snowcat_types.proofs.around.row_of.Goals as goal

pub returns-in_default : goal.returns-in_default
returns-in_default c = record {
  mean =
      row_in_table (context_of c.args.around.now) c.args.e.now c.args.first c.type_row.result c.as_slice-in_default.result.now c.as_slice-n.result.now
      c.as_slice-in_default.ensures c.as_slice-n.ensures c.in_default.not-Name c.in_default.not-Bound c.in_default.not-Noted c.type_row.ensures.mean;
  named = λ h.
      named_in_table (out-Expr c.args.e.now).op c.as_slice-in_default.result.now (length c.as_slice-n.result.now) c.args.first c.type_row.result
      c.type_row.ensures.mean c.type_row.ensures.named;
}
