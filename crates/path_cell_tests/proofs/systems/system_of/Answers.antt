use Rattle.std.proofs.Common.{subst}
use Rattle.path_cell_tests.specs.Tested.{AreVariables}
use Rattle.path_cell_tests.proofs.TestedPaths.{next-tested, start-tested}
use Rattle.path_cell_tests.proofs.systems.system_of.Goals as goal

pub returns-in-Ok : goal.returns-in-Ok
returns-in-Ok c =
    let v = subst (λ ds. AreVariables ds c.args.kernel) c.as_slice.ensures
    (c.are_variables.ensures c.if-not-are_variables.false) in
    let p = rw c.in-Ok.is at c.all_paths.ensures in
    record {
      start = start-tested c.args.kernel c.args.names.now c.in-Ok.paths.start c.requires v p.starts;
      next = next-tested c.args.kernel c.args.names.now c.in-Ok.paths.next c.requires v p.steps;
    }
