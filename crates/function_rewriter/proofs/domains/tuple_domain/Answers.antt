use Rattle.function_rewriter.proofs.KnownValues.{constant-set, constants-older}
use Rattle.function_rewriter.proofs.domains.tuple_domain.Goals as goal

pub set-requires-clause-older : goal.set-requires-clause-older
set-requires-clause-older c = constants-older _ _ _ _ _ c.in_ok-edges.ensures.edges c.from_vec.ensures

pub set-requires-clause-named : goal.set-requires-clause-named
set-requires-clause-named c = rw c.from_vec.ensures c.in_ok-edges.ensures.edges.named

pub returns-clause-numbers : goal.returns-clause-numbers
returns-clause-numbers c = rw c.part_count-count.ensures at (constant-set _ _ _ _ _ _ _ c.in_ok-edges.ensures.edges c.from_vec.ensures c.in_ok-id.ensures.grows c.in_ok-id.ensures.cell c.in_ok-id.ensures.value)
