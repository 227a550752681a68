use Rattle.branch_cells.proofs.EndLiterals.{either_of}
use Rattle.branch_cells.proofs.ends.or_both.Goals as goal

pub returns-clause-value : goal.returns-clause-value
returns-clause-value c =
    either_of _ _ c.args.x c.args.on c.args.y _ _ c.in_ok-either.ensures.grows c.in_ok-both.ensures.value
    c.in_ok-either.ensures.value
