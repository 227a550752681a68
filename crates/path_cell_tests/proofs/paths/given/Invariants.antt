use Rattle.std.proofs.Common.{◌≡◌, map, take, Some}
use Rattle.std.specs.Prelude.{option_map}
use Rattle.path_cell_tests.proofs.paths.given.Given as goal

abbrev pub invariant-loop-i : goal.invariant-loop-i
invariant-loop-i l = map Some l.ids.items ≡ map (option_map (λ y. y.0)) (take l.i l.items)
