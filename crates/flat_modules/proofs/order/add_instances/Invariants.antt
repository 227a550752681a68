use Rattle.std.proofs.Common.{◌≡◌, ◌++◌, filter, take}
use Rattle.tla_meaning.specs.Flattening.{mentioned_by}
use Rattle.flat_modules.specs.inner.Mentions.{is_file}
use Rattle.flat_modules.proofs.order.add_instances.Given as goal

abbrev pub invariant-loop-unit : goal.invariant-loop-unit
invariant-loop-unit l = l.out.items ≡ l.initial.out.items ++ filter is_file (mentioned_by (take l.unit-index l.units))
