use Rattle.std.proofs.Common.{All}
use Rattle.kernel_trees.specs.ActionNames.{marks_of}
use Rattle.path_cell_tests.specs.Tested.{IsPathOf}
use Rattle.path_cell_tests.proofs.systems.paths_of.Given as goal

abbrev pub invariant-loop-i : goal.invariant-loop-i
invariant-loop-i l = All (IsPathOf (marks_of l.kind l.names) l.part) l.assigned.items
