use Rattle.plain_solver.proofs.ReadyLemmas.{opened}
use Rattle.plain_solver.proofs.searching.begin.Goals as goal

pub returns : goal.returns
returns c = opened c.args.search.now c.look_at_all.new.trail c.look_at_all.result c.requires.searching c.requires.head (rw (c.clauses.ensures, c.as_slice.ensures) at c.look_at_all.ensures)
