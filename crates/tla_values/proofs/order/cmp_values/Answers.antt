use Rattle.tla_values.proofs.Laws.{equal_exactly}
use Rattle.tla_values.proofs.order.cmp_values.Goals as goal

pub returns-clause-equal : goal.returns-clause-equal
returns-clause-equal c = equal_exactly _ _ _ c.compare.ensures
