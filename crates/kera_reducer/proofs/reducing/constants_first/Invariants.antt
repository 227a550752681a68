use Rattle.std.proofs.Common.{◌≡◌, drop, map, not, if◌then◌else◌}
use Rattle.std.specs.List.{list_all}
use Rattle.kernel_trees.specs.Systems.{constants_first}
use Rattle.kera_reducer.proofs.reducing.constants_first.Given as goal

abbrev pub invariant-loop-name : goal.invariant-loop-name
invariant-loop-name l =
    constants_first (map (λ d. d.constant) l.names)
    ≡ (if l.is_behind
    then list_all not (map (λ d. d.constant) (drop l.name-index l.names))
    else constants_first (map (λ d. d.constant) (drop l.name-index l.names)))
