use Rattle.outcome_cells.proofs.Joins.{strict_behind}
use Rattle.outcome_cells.proofs.faults.strict.Goals as goal

pub returns-clause-strict : goal.returns-clause-strict
returns-clause-strict c =
    let r = c.in_ok-r.ensures in
    strict_behind _ _ c.args.xs.now _ c.args.own _ r.grows c.in_ok-first.ensures.joins r.behind
