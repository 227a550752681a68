use Rattle.std.proofs.Common.{◌≡◌, map, take}
use Rattle.decoder_tests.proofs.cells.fields.Given as goal

abbrev pub invariant-loop-i : goal.invariant-loop-i
invariant-loop-i l = map (λ f. f.0) l.fields.items ≡ take l.i l.names
