use Rattle.std.proofs.Common.{◌≡◌}
use Rattle.kernel_reduction.specs.Rows.{product}
use Rattle.kera_reducer.proofs.powers.product.Given as goal

abbrev pub invariant-loop : goal.invariant-loop
invariant-loop l = l.result ≡ product l.made.place l.made.ty.now l.factor l.counter
