use Rattle.std.proofs.Common.{◌≡◌, map, take}
use Rattle.rewriting_tests.proofs.value_cells.field_names.Given as goal

abbrev pub invariant-loop-field : goal.invariant-loop-field
invariant-loop-field l = l.names.items ≡ map (λ f. f.0) (take l.field-index l.fields)
