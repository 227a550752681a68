use Rattle.std.proofs.Common.{◌≡◌, map, take, Some}
use Rattle.rewriting_tests.proofs.settings.present.Given as goal

abbrev pub invariant-loop-id : goal.invariant-loop-id
invariant-loop-id l = l.out.items ≡ map Some (take l.id-index l.ids)
