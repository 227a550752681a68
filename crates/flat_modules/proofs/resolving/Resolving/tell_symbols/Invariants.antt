use Rattle.std.proofs.Common.{drop}
use Rattle.tla_meaning.specs.Flattening.{symbol_misuses}
use Rattle.flat_modules.specs.inner.Learning.{Remains}
use Rattle.flat_modules.proofs.resolving.Resolving.tell_symbols.Given as goal

abbrev pub invariant-loop-i : goal.invariant-loop-i
invariant-loop-i l =
    Remains l.initial.self l.self (symbol_misuses l.place l.initial.self.scope l.with l.inside) (symbol_misuses l.place l.initial.self.scope l.with (drop l.i l.inside))
