use Rattle.std.proofs.Common.{◌≡◌, ◌++◌, take}
use Rattle.op_inliner.specs.inner.Naming.{news}
use Rattle.op_inliner.proofs.naming.push_news.Given as goal

abbrev pub invariant-loop-pair : goal.invariant-loop-pair
invariant-loop-pair l = l.all.items ≡ l.fn.all.items ++ news (take l.pair-index l.pairs)
