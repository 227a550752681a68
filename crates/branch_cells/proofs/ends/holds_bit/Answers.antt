use Rattle.branch_cells.proofs.EndLiterals.{calm_of, holds_of}
use Rattle.branch_cells.proofs.ends.holds_bit.Goals as goal

pub returns-clause-value : goal.returns-clause-value
returns-clause-value c =
    holds_of _ _ c.args.bit c.in_ok-calm.calm _ c.args.x.wrong c.args.x.big c.in_ok-holds.ensures.grows
    (calm_of _ c.args.x.wrong c.args.x.big _ _ _ c.negated-right.ensures c.negated-small.ensures
    c.in_ok-calm.ensures.value) c.in_ok-holds.ensures.value
