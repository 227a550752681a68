use Rattle.plain_solver.proofs.SearchLemmas.{keeps_same, ends_spent}
use Rattle.plain_solver.proofs.searching.resolve.Goals as goal

pub returns-then-is_spent : goal.returns-then-is_spent
returns-then-is_spent c =
    ends_spent c.args.budget c.args.search.now c.args.search.now (keeps_same c.args.search.now) c.requires.searching (rw c.len.ensures at (c.is_spent.ensures.0 c.if-is_spent.true))
