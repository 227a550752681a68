use Rattle.std.proofs.Common.{ap, ◌∙◌}
use Rattle.std.specs.Ordering.{is_eq}
use Rattle.tla_values.proofs.Laws.{same_exactly}
use Rattle.tla_values.proofs.order.same_value.Goals as goal

pub returns-clause-equal : goal.returns-clause-equal
returns-clause-equal c = same_exactly _ _ _ (c.is_eq.ensures ∙ ap is_eq c.cmp_values.ensures.order)
