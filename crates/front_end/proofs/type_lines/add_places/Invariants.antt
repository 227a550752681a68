use Rattle.std.proofs.Common.{◌≡◌, ◌++◌, take}
use Rattle.std.specs.Prelude.{flat_map}
use Rattle.front_end.specs.Lines.{behind_place}
use Rattle.front_end.proofs.type_lines.add_places.Given as goal

abbrev pub invariant-loop-at : goal.invariant-loop-at
invariant-loop-at l = l.out.items ≡ l.fn.out.items ++ flat_map (behind_place l.files) (take l.at-index l.places)
