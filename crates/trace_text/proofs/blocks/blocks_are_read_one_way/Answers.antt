use Rattle.trace_text.proofs.BlockLines.{one_state}
use Rattle.trace_text.proofs.FirstBadLine.{one_bad_line}
use Rattle.trace_text.proofs.blocks.blocks_are_read_one_way.Goals as goal

pub returns-clause-states : goal.returns-clause-states
returns-clause-states c = one_state

pub returns-clause-lines : goal.returns-clause-lines
returns-clause-lines c = one_bad_line
