use Rattle.std.proofs.Common.{◌≡◌, drop}
use Rattle.tla_meaning.specs.Flattening.{numbered}
use Rattle.flat_modules.proofs.copies.numbered.Given as goal

abbrev pub invariant-loop-i : goal.invariant-loop-i
invariant-loop-i l = numbered l.name l.decls 0 ≡ numbered l.name (drop l.i l.decls) l.i
