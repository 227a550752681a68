use Rattle.std.proofs.Common.{◌≡◌, map, take}
use Rattle.op_inliner.specs.inner.Sums.{cut_product_of}
use Rattle.op_inliner.proofs.sums.times.Given as goal

abbrev pub invariant-loop-u : goal.invariant-loop-u
invariant-loop-u l = l.factors.items ≡ map (cut_product_of l.a) (take l.u-index l.u-items)
