use Rattle.tla_meaning.specs.declared.actions.Assignable.TheVariants as assignable
use Rattle.path_cell_tests.specs.Tested.{IsTested}
use Rattle.path_cell_tests.proofs.TestedPaths.{item-of}
use Rattle.path_cell_tests.proofs.outcomes.system_text.Goals as goal

pub path_text-requires-clause-path : goal.path_text-requires-clause-path
path_text-requires-clause-path c =
    item-of (IsTested c.args.system.now.ker.names (assignable.PrimedVariables 0)) c.args.system.now.next
    c.as_slice-paths.result.now c.loop-i.i
    c.index-paths-i.result c.as_slice-paths.ensures c.requires.next c.loop-i-test.true c.index-paths-i.is
