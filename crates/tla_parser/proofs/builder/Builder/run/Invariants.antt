use Rattle.std.proofs.Common.{◌≡◌, Some, reverse}
use Rattle.tla_parser.specs.inner.Building.{made, some_if}
use Rattle.tla_parser.proofs.builder.Builder.run.Given as goal

abbrev pub invariant-loop-code : goal.invariant-loop-code
invariant-loop-code l = made l.yielded (Some (reverse l.fn.self.items.items)) ≡ some_if l.whole (reverse l.self.items.items)
