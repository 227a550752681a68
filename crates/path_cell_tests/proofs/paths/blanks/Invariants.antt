use Rattle.std.proofs.Common.{◌≡◌, replicate, None}
use Rattle.path_cell_tests.proofs.paths.blanks.Given as goal

abbrev pub invariant-loop-i : goal.invariant-loop-i
invariant-loop-i l = l.ids.items ≡ replicate l._i None
