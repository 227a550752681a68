use Rattle.std.proofs.Common.{◌≡◌}
use Rattle.snowcat_types.specs.inner.Bound.{among}
use Rattle.snowcat_types.proofs.TypableSteps.{left_from}
use Rattle.snowcat_types.proofs.typable.+fits.Given as goal

abbrev pub invariant-tree_fits-loop-i : goal.invariant-tree_fits-loop-i
invariant-tree_fits-loop-i l = record {
  kept : l.bound.items ≡ l.fn.bound.items;
  left : left_from l.count l.marks.items l.names l.trees (among l.fn.bound.items) l.i ≡ left_from l.count l.marks.items l.names l.trees (among l.fn.bound.items) 0;
}
