use Rattle.std.proofs.Common.{take}
use Rattle.kernel_shapes.specs.Levels.{after_path, path_numbers}
use Rattle.kernel_shapes.specs.Systems.{sized_path}
use Rattle.shape_bounds.specs.inner.Walks.{Walks, assigns_in}
use Rattle.shape_bounds.proofs.names.Names.path.Given as goal

abbrev pub invariant-loop-i : goal.invariant-loop-i
invariant-loop-i l =
    Walks l.fn.self l.self (after_path (assigns_in l.target) (sized_path l.fn.self.width (take l.i l.steps)))
    (path_numbers (assigns_in l.target) (sized_path l.fn.self.width (take l.i l.steps)))
