use Rattle.std.proofs.Common.{◌≡◌, drop}
use Rattle.std.specs.List.{list_all}
use Rattle.fault_places.specs.Places.{places_below}
use Rattle.fault_places.proofs.placing.+is_below.Given as goal

abbrev pub invariant-are_below-loop-e : goal.invariant-are_below-loop-e
invariant-are_below-loop-e l =
    list_all (places_below l.files) l.trees ≡ list_all (places_below l.files) (drop l.e-index l.trees)
