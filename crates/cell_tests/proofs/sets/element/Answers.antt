use Rattle.cell_tests.proofs.MemberSorts.{of-number}
use Rattle.cell_tests.proofs.sets.element.Goals as goal

pub returns-clause-sort : goal.returns-clause-sort
returns-clause-sort c = of-number _ c.args.kind _ c.if-kind-eq0.false c.if-kind-eq1.false c.in_ok-cell.ensures.sort
