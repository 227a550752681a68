use Rattle.std.proofs.Common.{◌≡◌, ◌++◌}
use Rattle.trace_text.specs.Reports.{block_text}
use Rattle.trace_text.proofs.Lines.{lines_from}
use Rattle.trace_text.proofs.reports.block.Given as goal

abbrev pub invariant-loop-i : goal.invariant-loop-i
invariant-loop-i l = l.out.items ++ lines_from l.i l.names l.state.vals ≡ l.initial.out.items ++ block_text l.names l.state
