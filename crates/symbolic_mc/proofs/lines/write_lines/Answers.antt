use Rattle.std.proofs.Common.{rules, arith}
use Rattle.tool_outside.proofs.Prefixes.{after_error, goes_on, cut_short}
use Rattle.symbolic_mc.proofs.lines.write_lines.Goals as goal

pub returns-in_err-write-clause-refused : goal.returns-in_err-write-clause-refused
returns-in_err-write-clause-refused g c =
    after_error c.from_residual.result _ (cut_short _ _ _ c.args.bytes.now c.lines.at _ c.lines.invariant.written c.in_err-write.ensures.refused)

pub lines-preserved : goal.lines-preserved
lines-preserved g c = record {
  within = omega arith;
  written = goes_on _ _ _ c.args.bytes.now c.lines.at c.line_end-end.result (omega arith) c.lines.invariant.written c.in_ok-write.ensures.added;
  no_fault = search rules;
}
