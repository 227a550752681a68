use Rattle.std.proofs.Common.{◌≡◌, ◌≤◌, ◌++◌, map, take, drop}
use Rattle.tla_meaning.specs.Resolving.{first_with, let_in, marked_in, resolver}
use Rattle.tla_meaning.specs.Symbols.{bound, parameter}
use Rattle.flat_modules.specs.inner.Telling.{Walks}
use Rattle.flat_modules.proofs.resolving.Resolving.+resolve.Given as goal

abbrev pub invariant-all-loop-i : goal.invariant-all-loop-i
invariant-all-loop-i l =
    (l.beside ≤ 2) × (l.self.scope ≡ l.initial.self.scope)
    × Walks l.initial.self l.self l.trees.items (first_with l.more l.initial.self.scope (map resolver (drop l.from l.args)))
    (first_with l.beside l.initial.self.scope (map resolver (drop l.i l.args)))

abbrev pub invariant-inside-loop-name : goal.invariant-inside-loop-name
invariant-inside-loop-name l =
    (l.self.scope ≡ l.initial.self.scope ++ map (bound l.place) (take l.name-index l.binds)) × (l.self.told ≡ l.initial.self.told)

abbrev pub invariant-body-loop-parameter_name : goal.invariant-body-loop-parameter_name
invariant-body-loop-parameter_name l =
    (l.self.scope ≡ l.initial.self.scope ++ map (parameter l.place) (take l.parameter_name-index l.parameters)) × (l.self.told ≡ l.initial.self.told)

abbrev pub invariant-let_parts-loop-i : goal.invariant-let_parts-loop-i
invariant-let_parts-loop-i l =
    (take l.before l.self.scope ≡ l.initial.self.scope)
    × Walks l.initial.self l.self l.trees.items (let_in l.place l.initial.self.scope l.lets l.binds (map resolver l.args))
    (let_in l.place l.self.scope (drop l.i l.lets) l.rest (map resolver (drop l.i l.args)))

abbrev pub invariant-marked-loop-i : goal.invariant-marked-loop-i
invariant-marked-loop-i l =
    (l.self.scope ≡ l.initial.self.scope)
    × Walks l.initial.self l.self l.trees.items (marked_in l.initial.self.scope (map (bound l.place) l.binds) l.marks (map resolver l.args))
    (marked_in l.initial.self.scope (map (bound l.place) l.binds) (drop l.i l.marks) (map resolver (drop l.i l.args)))
