use Rattle.function_operators.proofs.parts.or_default.Goals as goal

pub returns-in_ok-id-in-None-clause-cells : goal.returns-in_ok-id-in-None-clause-cells
returns-in_ok-id-in-None-clause-cells c =
    λ k e h. c.wrong_where-in-None.ensures.cells _ (c.in_ok-id-in-None.ensures.cell.sort k e)
