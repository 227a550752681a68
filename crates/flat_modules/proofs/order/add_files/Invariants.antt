use Rattle.std.proofs.Common.{◌≡◌, ◌++◌, filter, take}
use Rattle.flat_modules.specs.inner.Mentions.{is_file}
use Rattle.flat_modules.proofs.order.add_files.Given as goal

abbrev pub invariant-loop-name : goal.invariant-loop-name
invariant-loop-name l = l.out.items ≡ l.initial.out.items ++ filter is_file (take l.name-index l.names)
