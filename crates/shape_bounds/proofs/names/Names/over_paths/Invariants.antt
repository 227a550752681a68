use Rattle.std.proofs.Common.{drop}
use Rattle.kernel_shapes.specs.Levels.{after_paths, numbers_of}
use Rattle.kernel_shapes.specs.Systems.{sized_paths}
use Rattle.shape_bounds.specs.inner.Turns.{IsLevel}
use Rattle.shape_bounds.specs.inner.Walks.{assigns_in}
use Rattle.shape_bounds.proofs.names.Names.over_paths.Given as goal

abbrev pub invariant-loop-i : goal.invariant-loop-i
invariant-loop-i l =
    IsLevel l.self (after_paths (assigns_in l.target) (sized_paths l.self.width (drop l.i l.paths))) (numbers_of (assigns_in l.target) (sized_paths l.self.width (drop l.i l.paths)))
    (record { shapes = l.shapes; first = l.first })
