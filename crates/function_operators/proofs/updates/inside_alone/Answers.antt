use Rattle.function_operators.proofs.Updating.{masks}
use Rattle.function_operators.proofs.updates.inside_alone.Goals as goal

pub returns-clause-masks : goal.returns-clause-masks
returns-clause-masks c =
    masks _ _ _ _ _ _ c.negated-inside.ensures c.in_ok-big.ensures.grows c.in_ok-wrong.ensures.value
    c.in_ok-big.ensures.value
