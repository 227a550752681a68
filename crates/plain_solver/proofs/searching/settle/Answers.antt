use Rattle.plain_solver.proofs.SearchLemmas.{settled}
use Rattle.plain_solver.proofs.searching.settle.Goals as goal

pub returns : goal.returns
returns c = settled c.args.search.now c.propagate.new.trail c.propagate.result c.requires.searching (rw (c.clauses.ensures, c.as_slice.ensures) at c.propagate.ensures)
