use Rattle.std.proofs.Common.{◌≡◌, take, drop}
use Rattle.flat_modules.specs.inner.Telling.{TellsLets}
use Rattle.flat_modules.proofs.resolving.Resolving.tell_lets.Given as goal

abbrev pub invariant-loop-name : goal.invariant-loop-name
invariant-loop-name l =
    (take l.before l.self.scope ≡ l.initial.self.scope)
    × TellsLets l.initial.self l.self l.place l.lets l.binds (drop l.name-index l.lets) l.rest
