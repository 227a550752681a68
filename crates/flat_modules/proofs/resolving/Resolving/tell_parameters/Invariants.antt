use Rattle.std.proofs.Common.{◌≡◌, ◌++◌, map, take}
use Rattle.tla_meaning.specs.Symbols.{all_repeated, parameter, least_from}
use Rattle.flat_modules.proofs.resolving.Resolving.tell_parameters.Given as goal

abbrev pub invariant-loop-name : goal.invariant-loop-name
invariant-loop-name l =
    (l.self.scope ≡ l.initial.self.scope ++ map (parameter l.place) (take l.name-index l.names))
    × (l.self.told ≡ least_from l.initial.self.told (all_repeated l.initial.self.scope (map (parameter l.place) (take l.name-index l.names))))
