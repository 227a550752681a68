use Rattle.std.proofs.Common.{subst, sym}
use Rattle.tla_meaning.specs.declared.actions.Assignable.TheVariants as assignable
use Rattle.path_cell_tests.specs.Tested.{IsTested}
use Rattle.path_cell_tests.proofs.ReadyPaths.{start-kept}
use Rattle.path_cell_tests.proofs.outcomes.path_text.Goals as goal

pub write_path-requires-clause-path : goal.write_path-requires-clause-path
write_path-requires-clause-path c = (
  subst (λ ts. IsTested ts (assignable.PrimedVariables 0) c.args.path.now) (sym c.as_slice-types.ensures)
      c.requires.path,
  start-kept _ c.in_ok-shapes.shapes c.in_ok-shapes.ensures,
)
