use Rattle.std.proofs.Common.{◌≡◌, ◌++◌, take}
use Rattle.snowcat_types.proofs.typable.push_names.Given as goal

abbrev pub invariant-loop-name : goal.invariant-loop-name
invariant-loop-name l = l.bound.items ≡ l.fn.bound.items ++ take l.name-index l.names
