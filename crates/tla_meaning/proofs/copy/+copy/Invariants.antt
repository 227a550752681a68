use Rattle.std.proofs.Common.{◌≡◌, take}
use Rattle.tla_meaning.proofs.copy.+copy.Given as goal

abbrev pub invariant-copy_exprs-loop-e : goal.invariant-copy_exprs-loop-e
invariant-copy_exprs-loop-e l = l.items.items ≡ take l.e-index l.es
