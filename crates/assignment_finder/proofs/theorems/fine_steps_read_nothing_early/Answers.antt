use Rattle.assignment_finder.proofs.Walking.{fine_reads}
use Rattle.assignment_finder.proofs.theorems.fine_steps_read_nothing_early.Goals as goal

pub returns : goal.returns
returns c = fine_reads
