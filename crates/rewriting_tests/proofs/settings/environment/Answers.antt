use Rattle.rewriting_tests.proofs.Operands.{has-cells}
use Rattle.rewriting_tests.proofs.settings.environment.Goals as goal

pub returns-clause-cells : goal.returns-clause-cells
returns-clause-cells c =
    has-cells _ _ _ _ _ _ _ c.in_ok-later.ensures.grows c.in_ok-now.ensures.cells c.in_ok-later.ensures.cells c.from_vec.ensures
    c.in_ok-next.ensures c.as_slice.ensures.value c.new.ensures
