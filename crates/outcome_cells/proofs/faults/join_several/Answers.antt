use Rattle.outcome_cells.proofs.Joins.{operands_joined}
use Rattle.outcome_cells.proofs.faults.join_several.Goals as goal

pub returns-clause-joins : goal.returns-clause-joins
returns-clause-joins c =
    let either = c.in_ok-either.ensures in
    let big = c.in_ok-big.ensures in
    operands_joined _ _ _ c.args.xs.now _ _ _ either.grows big.grows c.in_ok-wrong.ensures.value either.value
    (rw c.negated.ensures at big.value)
