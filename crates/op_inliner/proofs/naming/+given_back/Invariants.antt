use Rattle.std.proofs.Common.{◌≡◌, take}
use Rattle.op_inliner.specs.inner.Naming.{backs_at}
use Rattle.op_inliner.proofs.naming.+given_back.Given as goal

abbrev pub invariant-all_given_back-loop-i : goal.invariant-all_given_back-loop-i
invariant-all_given_back-loop-i l = record {
  pairs : l.pairs.items ≡ l.fn.pairs.items;
  back : l.all.items ≡ backs_at l.binder (take l.i l.trees) l.fn.pairs.items;
}
