use Rattle.std.proofs.Common.{◌≡◌, ◌++◌, take}
use Rattle.flat_modules.proofs.aliases.add_copies.Given as goal

abbrev pub invariant-loop-name : goal.invariant-loop-name
invariant-loop-name l = l.out.items ≡ l.initial.out.items ++ take l.name-index l.aliases
