use Rattle.std.proofs.Common.{true}
use Rattle.plain_solver.proofs.searching.run.Goals as goal

pub decide-requires-clause-free : goal.decide-requires-clause-free
decide-requires-clause-free c = c.in-Some-first_free.ensures.1 true
