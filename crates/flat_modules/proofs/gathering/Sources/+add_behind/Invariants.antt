use Rattle.std.proofs.Common.{◌≡◌, ◌-◌, take}
use Rattle.std.specs.List.{flat_map}
use Rattle.flat_modules.specs.inner.Orders.{AreBehind, names_behind, with_names}
use Rattle.flat_modules.proofs.gathering.Sources.+add_behind.Given as goal

abbrev pub decreases-add_behind : goal.decreases-add_behind
decreases-add_behind l = l.depth

abbrev pub invariant-loop-other : goal.invariant-loop-other
invariant-loop-other l =
    (l.behind.names.items ≡ with_names l.initial.behind.names.items (flat_map (names_behind (l.depth - 1) l.self.modules.now) (take l.other-index l.other-items)))
    × AreBehind l.self.modules.now l.behind
