use Rattle.cell_merge.proofs.Fronts.{guards-both}
use Rattle.cell_merge.proofs.Edges.{negated-value}
use Rattle.cell_merge.proofs.arrows.guard_both.Goals as goal

pub returns-clause-guards : goal.returns-clause-guards
returns-clause-guards c =
    guards-both _ _ _ _ _ _ _ _ _ c.in_ok-guard_arrows.ensures.guards c.in_ok-guard_arrows-2.ensures.guards c.in_ok-guard_arrows-2.ensures.grows (λ a. negated-value _ _ a c.negated.ensures)
