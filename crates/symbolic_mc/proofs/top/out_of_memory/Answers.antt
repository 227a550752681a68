use Rattle.symbolic_mc.proofs.Told.{in_part}
use Rattle.symbolic_mc.proofs.top.out_of_memory.Goals as goal

pub returns-clause-prefix : goal.returns-clause-prefix
returns-clause-prefix g c = in_part c.write_lines.result _ _ _ c.write_lines.ensures.added c.write_lines.ensures.refused
